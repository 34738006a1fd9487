-- `limbs::bytes::is_clear_carried` meets its contract.
use mathlib.Core.Path.{◌≡◌}
use Rattle.limbs.proofs.LimbLoops.{ored, above}
use Rattle.limbs.proofs.bytes.is_clear_carried.Given as goal

abbrev pub invariant-loop-w : goal.invariant-loop-w
invariant-loop-w l = l.high ≡ ored l.w (above l.m l.all)
