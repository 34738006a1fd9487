-- `quadratic::root_limbs` meets its contract.
use Rattle.limbs.specs.Limbs.{carried_limbs}
use Rattle.quadratic.proofs.QuadraticLimbs.{Rooted}
use Rattle.quadratic.proofs.root_limbs.Given as goal

abbrev pub invariant-loop-w : goal.invariant-loop-w
invariant-loop-w l = Rooted carried_limbs l.m l.c l.initial.out l.out l.carry l.w
