-- `turns::merged` meets its contract.
use Prim.Native.Nat.{◌-◌, ◌*◌, ◌%◌, ◌^◌}
use lib.Bits.{bit_xor}
use Rattle.gf2.proofs.Loops.{Filled}
use Rattle.limbs.specs.Limbs.{carried_limbs}
use Rattle.limbs.proofs.RaisedLimbs.{limb_of}
use Rattle.turns.proofs.merged.Given as goal

abbrev pub invariant-loop-w : goal.invariant-loop-w
invariant-loop-w l = Filled carried_limbs (λ v. bit_xor (limb_of l.x v) (limb_of l.y v) % 2 ^ (l.m - v * 64)) l.initial.out l.out l.w
