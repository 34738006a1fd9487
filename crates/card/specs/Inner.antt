-- Inner definitions, which no demand cites: what the code's steps through a card say.
use Rattle.std.specs.Prelude.{◌≡◌, List, [], ◌∷◌, ℕ, Result, Ok, Err}
use Rattle.std.proofs.lemmas.List.Edits.{sets}
use Rattle.gf2.specs.Operands.{carried_bytes, from_coords}
use Rattle.judging.specs.declared.fault.Fault.{Fault}
use Rattle.judging.specs.Faults.{card_ends}
use Rattle.card.specs.Numbers.{Read, refused, got}
use Rattle.card.specs.Rows.{is_place, read_rows}

-- what a step answers, and the bytes that it leaves
abbrev pub told : {A : Type 0} → Result A Fault → List ℕ → Read A
told (Ok value) rest = got value rest
told (Err f) rest = refused f

-- what a step answers that stores its value in a lent row, and the bytes that it leaves
abbrev pub told_row : Result (Unit {0}) Fault → List ℕ → List ℕ → Read (List ℕ)
told_row (Ok _) row rest = got row rest
told_row (Err f) row rest = refused f

-- the next byte
abbrev pub read_byte : List ℕ → Read ℕ
read_byte [] = refused card_ends
read_byte (g ∷ rest) = got g rest

-- a row's places as a carried operand
abbrev pub carried_places : ℕ → Read (List ℕ) → Read (List ℕ)
carried_places m (refused f) = refused f
carried_places m (got ps rest) = got (from_coords carried_bytes m (is_place ps)) rest

-- where the rows end, with no word of what they are
abbrev pub end_of : Read (List ℕ) → Read (Unit {0})
end_of (refused f) = refused f
end_of (got t rest) = got tt rest

-- reading the m rows of a table from s: r is what the code says; rows without fault are stored in the table
pub record RowsRead (m : ℕ) (s : List ℕ) (r : Read (Unit {0})) (old new : List ℕ) : Type 0 where
  pub ends : r ≡ end_of (read_rows m m s)
  pub stores : (t rest : List ℕ) → read_rows m m s ≡ got t rest → new ≡ sets old 0 t
