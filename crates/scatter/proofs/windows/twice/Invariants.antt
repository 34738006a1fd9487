-- `scatter::windows::twice` meets its contract.
use lib.Bits.{bit_xor}
use Rattle.gf2.proofs.Loops.{Filled}
use Rattle.limbs.proofs.RaisedLimbs.{limb_of}
use Rattle.scatter.specs.Cells.{twice_limbs}
use Rattle.scatter.proofs.MoveLaws.{raised_limb}
use Rattle.scatter.proofs.windows.twice.Given as goal

abbrev pub invariant-loop-w : goal.invariant-loop-w
invariant-loop-w l = Filled twice_limbs (λ k. bit_xor (limb_of l.x k) (raised_limb l.x l.m k)) l.initial.out l.out l.w
