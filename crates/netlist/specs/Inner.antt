-- What only inner functions cite.
use Rattle.std.specs.Prelude.{ℕ, ◌*◌, ◌≤◌}
use Rattle.gf2.specs.Operands.{max_width}

-- numbers that the gates can be counted from
pub record Countable (m ones q : ℕ) : Type 0 where
  pub least : 2 ≤ m
  pub greatest : m ≤ max_width
  pub some : 1 ≤ ones
  pub most : ones ≤ m * m
  pub shared : m * q ≤ ones
