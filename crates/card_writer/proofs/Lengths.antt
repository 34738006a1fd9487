-- The lengths of numbers, rows and cards.
-- Bounds: a number takes at most two bytes, and no more than one more than itself; so the places of a row take no more bytes than its width.
-- Ones: the card of the table of ones, which is the longest from width 128 on.
use mathlib.Core.Path.{◌≡◌, refl, ap, ◌∙◌}
use mathlib.Core.List.{List, [], ◌∷◌, ◌++◌}
use Prim.Native.Nat.{ℕ, zero, suc, ◌+◌, ◌-◌, ◌*◌, ◌/◌, ◌%◌, ◌<◌, ◌≤◌}
use native.Mathlib.Nat.{zero-mul, suc-mul, mul-le-mul}
use native.Mathlib.Decide.{dec_lt}
use native.Mathlib.Omega.{arith}
use lib.ListN.{length, length-append}
use borrow.Author.Tests.{lt-ltb, le-ltb}
use Rattle.gf2.specs.Coordinates.{coord}
use Rattle.gf2.specs.Operands.{max_width, bytes_for, ones, IsOperand}
use Rattle.gf2.specs.Tables.{row, IsTable}
use Rattle.gf2.proofs.Operands.{coord-from, from-operand}
use Rattle.card.specs.Numbers.{number}
use Rattle.card.specs.Rows.{places, steps, ones_of, row_card, rows_card}
use Rattle.card.specs.Cards.{card}
use Rattle.card_writer.specs.Calls.{longest}
use Rattle.card_writer.specs.Statements.{one_rows, all_ones_table}
use Rattle.card.proofs.Places.{Ascending, none, more, places-one, places-ascend}
use Rattle.card.proofs.Trips.{row_first, row_next}

module _ (n : ℕ) where
  pub one_byte : n < 128 → number n ≡ n ∷ []
  unfolding number
  one_byte h = rw (lt-ltb n 128 h)

  pub two_bytes : 128 ≤ n → number n ≡ (128 + n % 128) ∷ (n / 128) ∷ []
  unfolding number
  two_bytes h = rw (le-ltb n 128 h)

  number-le : (length (number n) ≤ 2) × (length (number n) ≤ 1 + n)
  number-le = elim (dec_lt n 128) [
    | yes h ↦ rw (one_byte h) (omega arith, omega arith)
    | no h ↦ rw (two_bytes (omega arith)) (omega arith, omega arith)
  ]

-- a step to a place takes no more bytes than the places that it goes over, that place among them
steps-le : {m free : ℕ} {ps : List ℕ} → Ascending m free ps → length (steps free ps) ≤ m - free
unfolding steps
steps-le none = omega arith
steps-le {m} {free} {ps = p ∷ ps} (more l u a) = omega (arith, length-append (number (p - free)) (steps (p + 1) ps), (number-le (p - free)).1, steps-le a)

pub row-length : (m : ℕ) (x : List ℕ) → length (row_card m x) ≡ length (number (length (ones_of m x))) + length (steps 0 (ones_of m x))
unfolding row_card
row-length m x = length-append (number (length (ones_of m x))) (steps 0 (ones_of m x))

row-le : (m : ℕ) (x : List ℕ) → length (row_card m x) ≤ m + 2
row-le m x = omega (arith, row-length m x, (number-le (length (ones_of m x))).0, steps-le (places-ascend (coord x) 0 m m (omega arith)))

rows-le : (m : ℕ) (table : List ℕ) (start count : ℕ) → length (rows_card m table start count) ≤ count * (m + 2)
unfolding rows_card
rows-le m table start zero = omega arith
rows-le m table start (suc count) = rw (length-append, suc-mul) (omega (arith, row-le m (row m table start), rows-le m table (start + 1) count))

pub card-length : (m : ℕ) (table : List ℕ) → length (card m table) ≡ 1 + length (number m) + length (rows_card m table 0 m)
unfolding card number
card-length m table = omega (arith, length-append (number 1) (number m ++ rows_card m table 0 m), length-append (number m) (rows_card m table 0 m))

pub card-le : (m : ℕ) (table : List ℕ) → length (card m table) ≤ longest m
card-le m table = omega (arith, card-length m table, (number-le m).0, rows-le m table 0 m)

-- no card of any width is longer
pub card-most : (m : ℕ) (table : List ℕ) → m ≤ max_width → length (card m table) ≤ longest max_width
card-most m table h =
    let wide : m + 2 ≤ max_width + 2 = omega arith in
    omega (arith, card-le m table, mul-le-mul h wide)

-- the table of ones
one-operand : (m : ℕ) → IsOperand (bytes_for m) m (ones (bytes_for m) m)
unfolding ones
one-operand m = from-operand (bytes_for m) m (λ i. 1)

rows-of-ones : (m count d : ℕ) → d < count → row m (one_rows m count) d ≡ ones (bytes_for m) m
unfolding one_rows
rows-of-ones m zero d l = absurd (omega arith)
rows-of-ones m (suc count) zero l = row_first m (ones (bytes_for m) m) (one_rows m count) (one-operand m).size
rows-of-ones m (suc count) (suc d) l = row_next m (ones (bytes_for m) m) (one_rows m count) d (one-operand m).size ∙ rows-of-ones m count d (omega arith)

ones-size : (m count : ℕ) → length (one_rows m count) ≡ count * bytes_for m
unfolding one_rows
ones-size m zero = rw zero-mul
ones-size m (suc count) = rw (length-append, suc-mul) (omega (arith, (one-operand m).size, ones-size m count))

pub ones-table : (m : ℕ) → IsTable m (all_ones_table m)
ones-table m = record { size = ones-size m m; rows = λ d l. rw (rows-of-ones m m d l) (one-operand m) }

-- every place, each one step after the one before
module _ (f : ℕ → ℕ) where
  all-places : (start count : ℕ) → ((i : ℕ) → start ≤ i → i < start + count → f i ≡ 1) →
      (length (places f start count) ≡ count) × (length (steps start (places f start count)) ≡ count)
  unfolding places steps
  all-places start zero h = (refl, refl)
  all-places start (suc count) h =
      let rest = all-places (start + 1) count (λ i l u. h i (omega arith) (omega arith)) in
      let here = h start (omega arith) (omega arith) in
      let z : start - start ≡ 0 = omega arith in
      rw (places-one f start count (λ e. omega arith), z, one_byte 0 (omega arith)) (omega (arith, rest.0), omega (arith, rest.1))

module _ (m : ℕ) (wide : 128 ≤ m) where
  one-row : length (row_card m (ones (bytes_for m) m)) ≡ m + 2
  one-row =
      let all = all-places (coord (ones (bytes_for m) m)) 0 m (λ i l u. unfold ones in coord-from (bytes_for m) m (λ i. 1) (omega arith) i (omega arith)) in
      omega (arith, row-length m (ones (bytes_for m) m), all.1, ap (λ n. length (number n)) all.0, ap length (two_bytes m wide))

  one-rows : (start count : ℕ) → start + count ≤ m → length (rows_card m (all_ones_table m) start count) ≡ count * (m + 2)
  unfolding rows_card
  one-rows start zero h = omega arith
  one-rows start (suc count) h = rw (length-append, rows-of-ones m m start (omega arith), suc-mul) (omega (arith, one-row, one-rows (start + 1) count (omega arith)))

  pub ones-longest : length (card m (all_ones_table m)) ≡ longest m
  ones-longest = omega (arith, card-length m (all_ones_table m), ap length (two_bytes m wide), one-rows 0 m (omega arith))
