-- `limbs::slices::plus_each` meets its contract.
use Prim.Native.Nat.{◌*◌}
use Rattle.gf2.specs.Coordinates.{coord}
use Rattle.gf2.specs.Operands.{below}
use Rattle.limbs.proofs.SliceLaws.{Plus}
use Rattle.limbs.proofs.slices.plus_each.Given as goal

abbrev pub invariant-loop-b : goal.invariant-loop-b
invariant-loop-b l = Plus (below (8 * l.b) (coord l.s)) l.initial.out l.out
