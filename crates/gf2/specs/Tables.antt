-- Tables as lists of bytes: rows, basis operands, products of two basis elements, ones.
use Rattle.std.specs.Prelude.{◌≡◌, List, ℕ, ◌*◌, ◌<◌, length, take, drop, eqb}
use Rattle.gf2.specs.Sums.{sum}
use Rattle.gf2.specs.Coordinates.{coord}
use Rattle.gf2.specs.Operands.{bytes_for, minus, choose, from_coords, turned, IsOperand}

-- "A table is m rows, each an operand of W bytes, m·W in all": row d
unfoldable pub row : ℕ → List ℕ → ℕ → List ℕ
row m table d = take (bytes_for m) (drop (d * bytes_for m) table)

-- "A table is m rows, each an operand of W bytes, m·W in all"
pub record IsTable (m : ℕ) (table : List ℕ) : Type 0 where
  pub size : length table ≡ m * bytes_for m
  pub rows : (d : ℕ) → d < m → IsOperand (bytes_for m) m (row m table d)

-- βk, the basis operand whose only coordinate is k
unfoldable pub basis : ℕ → ℕ → List ℕ
basis m k = from_coords (bytes_for m) m (λ i. choose (eqb i k) 1 0)

-- "βi·βj is row j-i turned i places"
unfoldable pub pair_product : ℕ → List ℕ → ℕ → ℕ → List ℕ
pair_product m table i j = turned m i (row m table (minus m j i))

-- "C is the number of ones in the table"
unfoldable pub ones_in : ℕ → List ℕ → ℕ
ones_in m table = sum m (λ d. sum m (coord (row m table d)))
