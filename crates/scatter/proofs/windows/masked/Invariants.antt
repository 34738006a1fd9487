-- `scatter::windows::masked` meets its contract.
use lib.ListN.{get_or}
use Rattle.limbs.specs.Limbs.{carried_limbs}
use Rattle.gf2.proofs.Loops.{Filled}
use lib.Bits.{bit_and}
use Rattle.scatter.proofs.windows.masked.Given as goal

abbrev pub invariant-loop-w : goal.invariant-loop-w
invariant-loop-w l = Filled carried_limbs (λ k. bit_and (get_or l.x k 0) (get_or l.y k 0)) l.initial.out l.out l.w
