-- `scatter::windows::met` meets its contract.
use Rattle.gf2.proofs.Loops.{Filled}
use Rattle.limbs.specs.Limbs.{reach}
use Rattle.scatter.proofs.CellLaws.{pairs}
use Rattle.limbs.proofs.LimbLoops.{limb_for}
use Rattle.scatter.proofs.windows.met.Given as goal

abbrev pub invariant-loop-w : goal.invariant-loop-w
invariant-loop-w l = Filled (reach l.m) (limb_for (pairs l.once l.d l.x l.y l.xx l.yy)) l.initial.out l.out l.w
