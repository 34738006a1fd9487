-- `list_folds::columns::fill` meets its contract. The invariant: the columns have the rows before d.
use mathlib.Core.Path.{◌≡◌}
use Prim.Native.Nat.{◌≤◌}
use lib.ListN.{length}
use Rattle.list_folds.specs.Columns.{Columns}
use Rattle.list_folds.proofs.columns.fill.Given as goal

abbrev pub invariant-loop-d : goal.invariant-loop-d
invariant-loop-d l = (l.d ≤ l.table.width) × (Columns l.rows l.table.width l.table.bytes.now l.d l.columns) × (length l.columns ≡ length l.initial.columns)
