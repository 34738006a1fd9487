-- `limbs::limbs::low_limbs` meets its contract.
use Prim.Native.Nat.{◌-◌, ◌*◌, ◌%◌, ◌^◌}
use lib.ListN.{get_or}
use Rattle.gf2.proofs.Loops.{Filled}
use Rattle.limbs.specs.Limbs.{carried_limbs}
use Rattle.limbs.proofs.limbs.low_limbs.Given as goal

abbrev pub invariant-loop-w : goal.invariant-loop-w
invariant-loop-w l = Filled carried_limbs (λ k. get_or l.x k 0 % 2 ^ (l.m - k * 64)) l.initial.out l.out l.w
