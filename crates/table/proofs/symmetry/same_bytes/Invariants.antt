-- `table::symmetry::same_bytes` meets its contract.
use mathlib.Core.Path.{◌≡◌}
use Rattle.limbs.proofs.LimbLoops.{ored}
use Rattle.table.proofs.Comparing.{apart}
use Rattle.table.proofs.symmetry.same_bytes.Given as goal

abbrev pub invariant-loop-w : goal.invariant-loop-w
invariant-loop-w l = l.apart ≡ ored l.w (apart l.p l.q)
