-- `scatter::windows::window` meets its contract.
use Prim.Native.Nat.{◌+◌}
use Rattle.gf2.proofs.Loops.{Filled}
use Rattle.limbs.specs.Limbs.{reach, limb_coord}
use Rattle.limbs.proofs.LimbLoops.{limb_for}
use Rattle.scatter.proofs.windows.window.Given as goal

abbrev pub invariant-loop-w : goal.invariant-loop-w
invariant-loop-w l = Filled (reach l.m) (limb_for (λ i. limb_coord l.x (l.at + i))) l.initial.out l.out l.w
