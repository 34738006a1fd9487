-- What is proved of the products and the inverse under an accepted table: the statements alone.
-- They speak of the definitions that the contracts of the calls cite, and of operands as the program carries them.
use Rattle.std.specs.Prelude.{◌≡◌, List, ℕ, ◌+◌, ◌-◌, ◌≤◌}
use Rattle.gf2.specs.Operands.{max_width, carried_bytes, IsOperand, zeroes, ones}
use Rattle.gf2.specs.Tables.{IsTable}
use Rattle.gf2.specs.Products.{product, reduced}
use Rattle.gf2.specs.Check.{Accepted}
use Rattle.gf2.specs.Inverse.{log2, binary_ones, inverse, products_made}

-- of a width m and a table
module _ (m : ℕ) (table : List ℕ) where
  abbrev pub Carried : List ℕ → Type 0
  Carried a = IsOperand carried_bytes m a

  pub record Multiplies : Type 0 where
    -- both methods give one product
    pub methods : (a b : List ℕ) → Carried a → Carried b → reduced m table a b ≡ product m table a b
    -- an operand times its inverse is one
    pub inverts : (a : List ℕ) → Carried a → ¬ (a ≡ zeroes carried_bytes m) → product m table a (inverse m table a) ≡ ones carried_bytes m
    -- and no other operand is its inverse
    pub only : (a b : List ℕ) → Carried a → Carried b → product m table a b ≡ ones carried_bytes m → b ≡ inverse m table a
    -- the number of products made
    pub count : (a : List ℕ) → products_made m table a ≡ log2 (m - 1) + binary_ones (m - 1) - 1

abbrev pub UnderAccepted : Type 0
UnderAccepted = (m : ℕ) (table : List ℕ) → 2 ≤ m → m ≤ max_width → IsTable m table → Accepted m table → Multiplies m table
