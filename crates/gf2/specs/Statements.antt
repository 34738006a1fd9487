-- What is proved of tables, products and inverses: the statements alone, over lists of bytes and the definitions of specs/.
-- A: the check accepts a table exactly when its operands form a field whose square is the turn by one.
-- H: the operand that leaves every operand of that field unchanged is one.
-- B: the chain gives the inverse, with a known number of products.
-- C: document 01's rule 7, the row sum, follows from rules 4, 5 and 6. I: so what is accepted is the same set without it.
-- F: under rules 4 and 5, rule 6 follows from rule 6 for i = 0.
-- D: the reduced product is the product, by pairs and by distances.
-- E: for every r, as many pairs (i, j) have coordinate r in βi·βj as the table has ones.
-- G: an accepted table has 2m - 1 ones at least.
use Rattle.std.specs.Prelude.{◌≡◌, ◌↔◌, List, ℕ, zero, suc, ◌+◌, ◌-◌, ◌*◌, ◌^◌, ◌<◌, ◌≤◌, length}
use Rattle.gf2.specs.Sums.{sum}
use Rattle.gf2.specs.Coordinates.{coord}
use Rattle.gf2.specs.Operands.{bytes_for, minus, IsOperand, from_coords, zeroes, ones}
use Rattle.gf2.specs.Tables.{IsTable, row, basis, pair_product, ones_in}
use Rattle.gf2.specs.Products.{product, reduced, by_distance}
use Rattle.gf2.specs.Check.{Rule6, Symmetric, Accepted}
use Rattle.gf2.specs.Field.{IsUnit, Field, Squares}
use Rattle.gf2.specs.Inverse.{log2, binary_ones, inverse, products_made}

-- A table is accepted exactly when the operands of its width form a field under it whose square is the turn by one.
abbrev pub TheoremA : Type 0
TheoremA = (m : ℕ) (table : List ℕ) → 2 ≤ m → IsTable m table → Accepted m table ↔ (Field m table × Squares m table)

-- Under an accepted table one is the operand that "leaves every a unchanged as a factor; and every a but zero has some b for which a·b is
-- that operand".
abbrev pub TheoremH : Type 0
TheoremH = (m : ℕ) (table : List ℕ) → 2 ≤ m → IsTable m table → Accepted m table → IsUnit m table (ones (bytes_for m) m)

-- a^k by repeated product; a^0 is one
unfoldable pub power : ℕ → List ℕ → ℕ → List ℕ → List ℕ
power m table zero a = ones (length a) m
power m table (suc k) a = product m table (power m table k a) a

-- For an operand a of n bytes, the chain's result is a^(2^m - 2), and the only operand whose product with a is one.
pub record GivesInverse (n m : ℕ) (table a : List ℕ) : Type 0 where
  pub is_power : inverse m table a ≡ power m table (2 ^ m - 2) a
  pub is_inverse : ¬ (a ≡ zeroes n m) → product m table a (inverse m table a) ≡ ones n m
  pub unique : (b : List ℕ) → IsOperand n m b → product m table a b ≡ ones n m → b ≡ inverse m table a

pub record TheoremB : Type 0 where
  -- for operands of bytes_for m bytes and of more
  pub inverses : (n m : ℕ) (table a : List ℕ) → 2 ≤ m → m ≤ 8 * n → IsTable m table → Accepted m table →
      IsOperand n m a → GivesInverse n m table a
  -- under any table
  pub products : (m : ℕ) (table a : List ℕ) → 2 ≤ m → products_made m table a ≡ log2 (m - 1) + binary_ones (m - 1) - 1
  -- log2 is the logarithm rounded down
  pub logarithm : (n : ℕ) → 1 ≤ n → (2 ^ log2 n ≤ n) × (n < 2 ^ (log2 n + 1))

-- the sum of all rows
unfoldable pub row_sum : ℕ → List ℕ → List ℕ
row_sum m table = from_coords (bytes_for m) m (λ s. sum m (λ d. coord (row m table d) s))

-- Rule 7 of document 01, which the check asked last before document 02, (f): "the sum of all rows has only coordinate 0"
abbrev pub Rule7 : ℕ → List ℕ → Type 0
Rule7 m table = row_sum m table ≡ basis m 0

-- Rules 4, 5 and 6 imply rule 7.
abbrev pub TheoremC : Type 0
TheoremC = (m : ℕ) (table : List ℕ) → 2 ≤ m → IsTable m table → Symmetric m table →
    ((i j : ℕ) → i < m → j < m → Rule6 m table i j) → Rule7 m table

-- "what it accepts is the same set": what the check asks holds just when it holds with rule 7.
abbrev pub TheoremI : Type 0
TheoremI = (m : ℕ) (table : List ℕ) → 2 ≤ m → IsTable m table → Accepted m table ↔ (Accepted m table × Rule7 m table)

-- Under rules 4 and 5, rule 6 for i = 0 and every j implies it for every i and j: rule 6 for i = 0 says that β1 acts as β0 twice, and the
-- turn carries that on, so that every βj acts as a power of β0, and all of them commute.
abbrev pub TheoremF : Type 0
TheoremF = (m : ℕ) (table : List ℕ) → 2 ≤ m → IsTable m table → Symmetric m table →
    ((j : ℕ) → j < m → Rule6 m table 0 j) → (i j : ℕ) → i < m → j < m → Rule6 m table i j

-- Under rules 4 and 5 the reduced product is the product, of any bytes, and so is its form by distances.
pub record Reduces (m : ℕ) (table a b : List ℕ) : Type 0 where
  pub pairs : reduced m table a b ≡ product m table a b
  pub distances : by_distance m table a b ≡ product m table a b

abbrev pub TheoremD : Type 0
TheoremD = (m : ℕ) (table : List ℕ) → 2 ≤ m → IsTable m table → Symmetric m table → (a b : List ℕ) → Reduces m table a b

-- A coordinate is 0 or 1, so each of these sums is a number of pairs: all (i, j) whose βi·βj has coordinate r,
unfoldable pub pairs_with : ℕ → List ℕ → ℕ → ℕ
pairs_with m table r = sum m (λ i. sum m (λ j. coord (pair_product m table i j) r))

-- those with i < j,
unfoldable pub pairs_below : ℕ → List ℕ → ℕ → ℕ
pairs_below m table r = sum m (λ j. sum j (λ i. coord (pair_product m table i j) r))

-- and those with j < i, i and j exchanged
unfoldable pub pairs_above : ℕ → List ℕ → ℕ → ℕ
pairs_above m table r = sum m (λ j. sum j (λ i. coord (pair_product m table j i) r))

pub record CountsPairs (m : ℕ) (table : List ℕ) : Type 0 where
  -- for every r as many pairs as the table has ones
  pub all : (r : ℕ) → r < m → pairs_with m table r ≡ ones_in m table
  -- under rules 4 and 5 one of them is diagonal, and the others come in equal halves
  pub diagonal : Symmetric m table → (i r : ℕ) → i < m → r < m → (coord (pair_product m table i i) r ≡ 1) ↔ (i ≡ minus m r 1)
  pub halves : Symmetric m table → (r : ℕ) → r < m → pairs_below m table r ≡ pairs_above m table r
  pub total : Symmetric m table → (r : ℕ) → r < m → ones_in m table ≡ 1 + 2 * pairs_below m table r
  -- in a field at most one row is all ones
  pub full_row : Field m table → (d e : ℕ) → d < m → e < m →
      row m table d ≡ ones (bytes_for m) m → row m table e ≡ ones (bytes_for m) m → d ≡ e

abbrev pub TheoremE : Type 0
TheoremE = (m : ℕ) (table : List ℕ) → 2 ≤ m → IsTable m table → CountsPairs m table

-- An accepted table has 2m - 1 ones at least. A normal basis with C = 2m - 1 is called optimal.
abbrev pub TheoremG : Type 0
TheoremG = (m : ℕ) (table : List ℕ) → 2 ≤ m → IsTable m table → Accepted m table → 2 * m - 1 ≤ ones_in m table
