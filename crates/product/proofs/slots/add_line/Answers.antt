-- `product::slots::add_line` meets its contract.
use mathlib.Core.Path.{ap, ◌∙◌}
use Prim.Native.Nat.{◌+◌, ◌*◌, ◌≤◌}
use native.Mathlib.Omega.{arith}
use lib.ListN.{length}
use Rattle.scatter.specs.Cells.{plus_row}
use Rattle.scatter.proofs.OnesLaws.{row-added}
use Rattle.table.proofs.Shapes.{row_fits, row-part}
use Rattle.product.proofs.slots.add_line.Goals as goal
use Rattle.product.proofs.slots.add_line.Goals.{After-bytes_for-size}

-- the row lies within the table
within : (c : After-bytes_for-size) → let a = c.args in a.d * c.bytes_for-size.result + c.bytes_for-size.result ≤ length a.table.now
within c = row_fits c.requires.0 _ c.requires.1 c.bytes_for-size.ensures

pub overflow_mul-from : goal.overflow_mul-from
overflow_mul-from c = omega (arith, within c)

pub overflow_add-from : goal.overflow_add-from
overflow_add-from c = omega (arith, within (goal.at.overflow_add-from c).After-bytes_for-size)

pub slice_bounds-add_row-end : goal.slice_bounds-add_row-end
slice_bounds-add_row-end c = omega (arith, within (goal.at.slice_bounds-add_row-end c).After-bytes_for-size)

pub returns : goal.returns
returns c =
    let a = c.args in
    row-added a.width a.e _ c.requires.2 (c.add_row.ensures
    ∙ ap (plus_row a.width a.g.now a.e) (row-part a.width a.table.now a.d c.bytes_for-size.ensures))
