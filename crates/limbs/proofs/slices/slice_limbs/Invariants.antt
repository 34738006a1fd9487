-- `limbs::slices::slice_limbs` meets its contract.
use Prim.Native.Nat.{◌+◌, ◌*◌}
use Rattle.gf2.specs.Coordinates.{coord, value}
use Rattle.gf2.proofs.Loops.{Filled}
use Rattle.limbs.specs.Limbs.{carried_limbs}
use Rattle.limbs.proofs.slices.slice_limbs.Given as goal

abbrev pub invariant-loop-w : goal.invariant-loop-w
invariant-loop-w l = Filled carried_limbs (λ k. value 64 (λ j. coord l.s (k * 64 + j))) l.initial.out l.out l.w
