-- `product::kernel::add_rows` meets its contract. The invariant: the rows before d are added.
use mathlib.Core.Path.{◌≡◌}
use Prim.Native.Nat.{◌-◌}
use lib.ListN.{length}
use Rattle.scatter.specs.Cells.{Added}
use Rattle.product.specs.Inner.{rows_to}
use Rattle.product.proofs.kernel.add_rows.Given as goal

abbrev pub invariant-loop-d : goal.invariant-loop-d
invariant-loop-d l = Added (rows_to l.method l.width l.table l.x l.y l.from (l.d - l.from)) l.initial.g l.g × (length l.g ≡ length l.initial.g)
