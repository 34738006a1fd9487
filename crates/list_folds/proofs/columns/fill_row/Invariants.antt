-- `list_folds::columns::fill_row` meets its contract. The invariant: the row has its coordinates before s, and s is one of its ones or past it.
use mathlib.Core.Path.{◌≡◌}
use Prim.Native.Nat.{◌-◌, ◌<◌}
use Rattle.gf2.specs.Coordinates.{coord}
use Rattle.gf2.specs.Tables.{row}
use Rattle.list_folds.proofs.ColumnLaws.{RowTo}
use Rattle.list_folds.proofs.columns.fill_row.Given as goal

abbrev pub invariant-loop-s : goal.invariant-loop-s
invariant-loop-s l = RowTo l.table.width l.table.bytes.now l.d l.s l.initial.columns l.columns × (l.s < l.table.width → 1 ≡ coord (row l.table.width l.table.bytes.now l.d) l.s)

abbrev pub decreases-loop-s : goal.decreases-loop-s
decreases-loop-s l = l.width - l.s
