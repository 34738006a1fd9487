-- The two ways to a product, and which rows each looks at.
use Rattle.std.specs.Prelude.{ℕ, ◌/◌}
use Rattle.scatter.specs.declared.methods.Method.{Method}
use Rattle.scatter.specs.declared.methods.Method.TheVariants.{Plain, Reduced}

-- the rows that a method looks at: all, or 1 to m/2
abbrev pub first_row : Method → ℕ
first_row Plain = 0
first_row Reduced = 1

abbrev pub row_count : Method → ℕ → ℕ
row_count Plain m = m
row_count Reduced m = m / 2
