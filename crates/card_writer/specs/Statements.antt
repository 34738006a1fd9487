-- What is proved of writing beside its contract: the statements alone, over the definitions that the contracts cite.
-- A card that was read is written as it was. How long a card can be. The cards of the four carried tables, byte by byte.
use Rattle.std.specs.Prelude.{◌≡◌, List, [], ◌∷◌, ◌++◌, ℕ, zero, suc, ◌≤◌, length, Ok, IsOk}
use Rattle.gf2.specs.Operands.{bytes_for, ones}
use Rattle.gf2.specs.Tables.{IsTable}
use Rattle.table.specs.Carried.{carried2, carried3, carried4, carried5}
use Rattle.card.specs.Cards.{card}
use Rattle.card.specs.Calls.{in_front, read_call}
use Rattle.card.specs.Statements.{Bytes, CardOf, width_read, table_read}
use Rattle.card_writer.specs.Calls.{longest, write_call, write_card}

-- a card s, and the table of width m that is read from it: writing the table gives the very card back
pub record CardTrip (s : List ℕ) (m : ℕ) (table : List ℕ) : Type 0 where
  pub of_table : CardOf s m table
  pub answers : (out : List ℕ) → length s ≤ length out → write_call m table out ≡ Ok (length s)
  pub writes : (out : List ℕ) → length s ≤ length out → write_card m table out ≡ in_front s out

abbrev pub CardTrips : Type 0
CardTrips = (s old : List ℕ) → Bytes s → IsOk (read_call s old) → CardTrip s (width_read s old) (table_read s old)

-- `count` rows, each the operand one
unfoldable pub one_rows : ℕ → ℕ → List ℕ
one_rows m zero = []
one_rows m (suc count) = ones (bytes_for m) m ++ one_rows m count

-- the table of m rows whose every coordinate below m is 1
abbrev pub all_ones_table : ℕ → List ℕ
all_ones_table m = one_rows m m

-- a card has at most 3 + m·(m + 2) bytes, whatever the width and the table's bytes; from width 128 on the table of ones has a card as long
pub record CardLengths : Type 0 where
  pub most : (m : ℕ) (table : List ℕ) → length (card m table) ≤ longest m
  pub is_table : (m : ℕ) → IsTable m (all_ones_table m)
  pub reached : (m : ℕ) → 128 ≤ m → length (card m (all_ones_table m)) ≡ longest m

-- "Four tables are carried in the program itself", "written and compared by the cards": 01 02 01 01 02 00 00 is document 01's own
pub record CarriedCards : Type 0 where
  pub width2 : card 2 carried2 ≡ 0x01 ∷ 0x02 ∷ 0x01 ∷ 0x01 ∷ 0x02 ∷ 0x00 ∷ 0x00 ∷ []
  pub width3 : card 3 carried3 ≡ 0x01 ∷ 0x03 ∷ 0x01 ∷ 0x01 ∷ 0x02 ∷ 0x00 ∷ 0x01 ∷ 0x02 ∷ 0x01 ∷ 0x00 ∷ []
  pub width4 : card 4 carried4 ≡ 0x01 ∷ 0x04 ∷ 0x01 ∷ 0x01 ∷ 0x01 ∷ 0x03 ∷ 0x04 ∷ 0x00 ∷ 0x00 ∷ 0x00 ∷ 0x00 ∷ 0x01 ∷ 0x02 ∷ []
  pub width5 : card 5 carried5 ≡ 0x01 ∷ 0x05 ∷ 0x01 ∷ 0x01 ∷ 0x02 ∷ 0x00 ∷ 0x02 ∷ 0x02 ∷ 0x03 ∷ 0x00 ∷ 0x02 ∷ 0x01 ∷ 0x00 ∷ 0x02 ∷ 0x02 ∷ 0x01 ∷ []
