-- What is proved of cards beside the contract of reading: the statements alone, over the definitions that the contract cites.
-- Numbers, rows and cards: what is written is read as it was, and what is read is written as it was. A table has exactly one card.
use Rattle.std.specs.Prelude.{◌≡◌, List, ◌++◌, ℕ, ◌+◌, ◌*◌, ◌<◌, ◌≤◌, length, take, Ok, IsOk}
use Rattle.std.specs.Result.{result_unwrap_or}
use Rattle.std.proofs.lemmas.List.Edits.{sets}
pub use Rattle.gf2.specs.Coordinates.{Bytes}
use Rattle.gf2.specs.Operands.{max_width, bytes_for, IsOperand}
use Rattle.gf2.specs.Tables.{row, IsTable}
use Rattle.card.specs.Numbers.{number, number_limit, got, read_number}
use Rattle.card.specs.Rows.{rows_card, row_range, read_rows}
use Rattle.card.specs.Cards.{card}
use Rattle.card.specs.Calls.{in_front, read_call, read_table}

pub record NumberTrips : Type 0 where
  pub read_written : (n : ℕ) (rest : List ℕ) → n < number_limit → read_number (number n ++ rest) ≡ got n rest
  pub written_read : (s : List ℕ) (n : ℕ) (rest : List ℕ) → Bytes s → read_number s ≡ got n rest → s ≡ number n ++ rest

-- `count` rows of a table from row `start` on, whatever follows them
pub record RowTrips (m : ℕ) : Type 0 where
  pub read_written : (table : List ℕ) (start count : ℕ) (rest : List ℕ) →
      ((d : ℕ) → start ≤ d → d < start + count → IsOperand (bytes_for m) m (row m table d)) →
      read_rows m count (rows_card m table start count ++ rest) ≡ got (row_range m table start count) rest
  pub written_read : (table : List ℕ) (start count : ℕ) (s rest : List ℕ) → Bytes s →
      read_rows m count s ≡ got (row_range m table start count) rest →
      s ≡ rows_card m table start count ++ rest
  -- stored at their own place of a buffer that has it, they are the rows of the table
  pub in_place : (table old : List ℕ) (start count : ℕ) → (start + count) * bytes_for m ≤ length table → (start + count) * bytes_for m ≤ length old →
      (d : ℕ) → start ≤ d → d < start + count →
      row m (sets old (start * bytes_for m) (row_range m table start count)) d ≡ row m table d

-- a table of width m and its card
pub record TableTrip (m : ℕ) (table : List ℕ) : Type 0 where
  -- reading its card into a buffer with room gives m and the table
  pub answers : (old : List ℕ) → m * bytes_for m ≤ length old → read_call (card m table) old ≡ Ok m
  pub fills : (old : List ℕ) → m * bytes_for m ≤ length old → read_table (card m table) old ≡ in_front table old
  -- and it is the only card from which these are read
  pub only : (s old : List ℕ) → Bytes s → read_call s old ≡ Ok m → read_table s old ≡ in_front table old → s ≡ card m table

-- the width, 0 beside a fault, and the table that reading the card s finds, where the lent table is `old`
abbrev pub width_read : List ℕ → List ℕ → ℕ
width_read s old = result_unwrap_or (read_call s old) 0

abbrev pub table_read : List ℕ → List ℕ → List ℕ
table_read s old = take (width_read s old * bytes_for (width_read s old)) (read_table s old)

-- s is the card of this table of width m
pub record CardOf (s : List ℕ) (m : ℕ) (table : List ℕ) : Type 0 where
  pub least : 2 ≤ m
  pub greatest : m ≤ max_width
  pub shape : IsTable m table
  pub is_card : card m table ≡ s

pub record CardLaws : Type 0 where
  pub numbers : NumberTrips
  pub rows : (m : ℕ) → m ≤ max_width → RowTrips m
  pub tables : (m : ℕ) (table : List ℕ) → 2 ≤ m → m ≤ max_width → IsTable m table → TableTrip m table
  -- a card that is read without fault is that of the width and the table that are read
  pub cards : (s old : List ℕ) → Bytes s → IsOk (read_call s old) → CardOf s (width_read s old) (table_read s old)
