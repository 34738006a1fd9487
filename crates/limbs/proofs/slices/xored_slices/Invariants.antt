-- `limbs::slices::xored_slices` meets its contract.
use Prim.Native.Nat.{◌+◌}
use Rattle.gf2.specs.Coordinates.{coord}
use Rattle.gf2.proofs.Loops.{Filled}
use Rattle.limbs.specs.Limbs.{reach}
use Rattle.limbs.proofs.LimbLoops.{limb_for}
use Rattle.limbs.proofs.slices.xored_slices.Given as goal

abbrev pub invariant-loop-w : goal.invariant-loop-w
invariant-loop-w l = Filled (reach l.m) (limb_for (λ i. coord l.a i + coord l.b i)) l.initial.out l.out l.w
