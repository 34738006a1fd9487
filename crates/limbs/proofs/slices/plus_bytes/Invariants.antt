-- `limbs::slices::plus_bytes` meets its contract.
use Prim.Native.Nat.{◌*◌, ◌≤◌}
use Rattle.gf2.specs.Coordinates.{coord}
use Rattle.gf2.specs.Operands.{below}
use Rattle.limbs.specs.Limbs.{reach}
use Rattle.limbs.proofs.SliceLaws.{Plus}
use Rattle.limbs.proofs.slices.plus_bytes.Given as goal

abbrev pub invariant-loop-w : goal.invariant-loop-w
invariant-loop-w l = (l.w ≤ reach l.m) × Plus (below (64 * l.w) (coord l.s)) l.x l.out
