-- The card of a table: how it is written, and what reading one finds.
-- "Card" is document 01's word for the serialised form of a table.
use Rattle.std.specs.Prelude.{List, [], ◌∷◌, ◌++◌, ℕ, ◌*◌, eqb, Ok, Err}
use Rattle.gf2.specs.Operands.{bytes_for, choose}
use Rattle.judging.specs.Faults.{card_form, card_tail}
use Rattle.judging.specs.Causes.{Cause, Verdict, judged}
use Rattle.judging.specs.FaultTable.{bad_width, too_short}
use Rattle.card.specs.Numbers.{number, Read, refused, got, and_then, read_number}
use Rattle.card.specs.Rows.{rows_card, read_rows}

-- "A card: form 1, m, then for each row .."
unfoldable pub card : ℕ → List ℕ → List ℕ
card m table = number 1 ++ (number m ++ rows_card m table 0 m)

-- 1: "width not 2..571"; "11 following its width": "lent output shorter than needed", m·W bytes
abbrev pub lent_causes : ℕ → ℕ → List Cause
lent_causes room m = bad_width m ∷ too_short room (m * bytes_for m) ∷ []

abbrev pub lent_verdict : ℕ → ℕ → Verdict
lent_verdict room m = judged (lent_causes room m)

-- a value and the bytes that are left, where they pass
abbrev pub passed : {A : Type 0} → Verdict → A → List ℕ → Read A
passed (Ok _) a rest = got a rest
passed (Err f) a rest = refused f

-- the width, for a lent table of `room` bytes
unfoldable pub read_width : ℕ → List ℕ → Read ℕ
read_width room s = and_then (read_number s) (λ m rest. passed (lent_verdict room m) m rest)

-- 14: "form not 1"
unfoldable pub read_head : ℕ → List ℕ → Read ℕ
read_head room s = and_then (read_number s) (λ form rest. choose (eqb form 1) (read_width room rest) (refused card_form))

-- what a card holds
pub record Table : Type 0 where
  pub width : ℕ
  pub bytes : List ℕ

-- 16: "bytes after the card"
abbrev pub ended : ℕ → Read (List ℕ) → Read Table
ended m (refused f) = refused f
ended m (got t []) = got (record { width = m; bytes = t }) []
ended m (got t (b ∷ rest)) = refused card_tail

-- "a card is judged in byte order, 11 following its width"
unfoldable pub read_card : ℕ → List ℕ → Read Table
read_card room s = and_then (read_head room s) (λ m rest. ended m (read_rows m m rest))
