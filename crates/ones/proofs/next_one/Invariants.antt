-- `ones::next_one` meets its contract.
use Rattle.std.proofs.Common.{◌≡◌, ◌-◌, ◌*◌}
use Rattle.limbs.specs.Limbs.{carried_limbs}
use Rattle.ones.specs.RowLimbs.{next_one}
use Rattle.ones.proofs.next_one.Given as goal

abbrev pub invariant-loop-i : goal.invariant-loop-i
invariant-loop-i l = next_one l.x l.i ≡ next_one l.x l.from

abbrev pub decreases-loop-i : goal.decreases-loop-i
decreases-loop-i l = 64 * carried_limbs - l.i
