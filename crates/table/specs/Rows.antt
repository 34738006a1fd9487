-- What a table that has passed the judgement of its shape is.
use Rattle.std.specs.Prelude.{List, ℕ, ◌≤◌}
use Rattle.gf2.specs.Operands.{max_width}
use Rattle.gf2.specs.Tables.{IsTable}

-- "m is the width, 2 to 571"; "A table is m rows, each an operand of W bytes, m·W in all"
pub record Shaped (m : ℕ) (table : List ℕ) : Type 0 where
  pub least : 2 ≤ m
  pub greatest : m ≤ max_width
  pub is_table : IsTable m table
