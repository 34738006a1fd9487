-- `table::symmetry::SymmetricTable::all_act_twice` meets its contract.
use mathlib.Core.Path.{◌≡◌}
use mathlib.Core.Bool.{true}
use Rattle.gf2.specs.Sums.{every}
use Rattle.table.specs.Inner.{associates}
use Rattle.table.proofs.symmetry.SymmetricTable.all_act_twice.Given as goal

abbrev pub invariant-loop-j : goal.invariant-loop-j
invariant-loop-j l = every l.j (associates l.self.table.width l.self.table.bytes.now 0) ≡ true
