-- `table::shaped::Table::rows_at` meets its contract.
use Prim.Native.Nat.{◌*◌}
use Rattle.table.specs.Inner.{Below}
use Rattle.table.proofs.RowsAtOnes.{rows_to}
use Rattle.table.proofs.shaped.Table.rows_at.Given as goal

abbrev pub invariant-loop-w : goal.invariant-loop-w
invariant-loop-w l = Below l.self.width (rows_to l.self.width l.self.bytes.now l.x (l.w * 64)) l.total
