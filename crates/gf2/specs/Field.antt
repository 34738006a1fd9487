-- What it means that the operands of a width form a field under a table, and that its square is the turn.
use Rattle.std.specs.Prelude.{◌≡◌, List, ℕ}
use Rattle.gf2.specs.Operands.{bytes_for, IsOperand, zeroes, added, turned}
use Rattle.gf2.specs.Products.{product}

module _ (m : ℕ) where
  -- "An operand is W bytes"
  abbrev pub Op : List ℕ → Type 0
  Op a = IsOperand (bytes_for m) m a

  module _ (table : List ℕ) where
    -- "some operand leaves every a unchanged as a factor; and every a but zero has some b for which a·b is that operand"
    pub record IsUnit (e : List ℕ) : Type 0 where
      pub operand : Op e
      pub neutral : (a : List ℕ) → Op a → product m table e a ≡ a
      pub inverse : (a : List ℕ) → Op a → ¬ (a ≡ zeroes (bytes_for m) m) → (b : List ℕ) × Op b × (product m table a b ≡ e)

    -- "Under a table the operands form a field if, for all a, b and c and with its plain product: .."
    pub record Field : Type 0 where
      pub commutative : (a b : List ℕ) → Op a → Op b → product m table a b ≡ product m table b a
      pub associative : (a b c : List ℕ) → Op a → Op b → Op c → product m table (product m table a b) c ≡ product m table a (product m table b c)
      pub distributive : (a b c : List ℕ) → Op a → Op b → Op c → product m table a (added m b c) ≡ added m (product m table a b) (product m table a c)
      pub unit : (e : List ℕ) × IsUnit e

    -- "each operand times itself is that operand turned one place"
    pub record Squares : Type 0 where
      pub square : (a : List ℕ) → Op a → product m table a a ≡ turned m 1 a
