-- The rules 4 to 6 of the check, each under the number that its breach is given.
use Rattle.std.specs.Prelude.{◌≡◌, List, ℕ, ◌-◌, ◌<◌, ◌≤◌}
use Rattle.gf2.specs.Operands.{turned}
use Rattle.gf2.specs.Tables.{row, basis}
use Rattle.gf2.specs.Products.{product}

-- 4: "row 0 has only coordinate 1"
abbrev pub Rule4 : ℕ → List ℕ → Type 0
Rule4 m table = row m table 0 ≡ basis m 1

-- 5: "row d equals row m-d turned d places"
abbrev pub Rule5 : ℕ → List ℕ → ℕ → Type 0
Rule5 m table d = row m table d ≡ turned m d (row m table (m - d))

-- 6: "(β0·βi)·βj = β0·(βi·βj)"
abbrev pub Rule6 : ℕ → List ℕ → ℕ → ℕ → Type 0
Rule6 m table i j =
    product m table (product m table (basis m 0) (basis m i)) (basis m j)
    ≡ product m table (basis m 0) (product m table (basis m i) (basis m j))

-- rules 4 and 5
pub record Symmetric (m : ℕ) (table : List ℕ) : Type 0 where
  pub rule4 : Rule4 m table
  pub rule5 : (d : ℕ) → 1 ≤ d → d < m → Rule5 m table d

-- what the check asks of a table of the right shape: "The check then ends with 6", by document 02, (f)
pub record Accepted (m : ℕ) (table : List ℕ) : Type 0 where
  pub symmetric : Symmetric m table
  pub rule6 : (i j : ℕ) → i < m → j < m → Rule6 m table i j
