-- `gaussian::residues::Modulus::new` meets its contract.
use mathlib.Core.Path.{refl}
use native.Mathlib.Omega.{arith}
use Rattle.gaussian.proofs.TypeBound.{modulus-fits}
use Rattle.gaussian.proofs.ResidueLaws.{drawable-small}
use Rattle.gaussian.proofs.residues.Modulus.new.Goals as goal

pub overflow_mul-result : goal.overflow_mul-result
overflow_mul-result c = omega (arith, drawable-small c.requires)

pub overflow_add-result : goal.overflow_add-result
overflow_add-result c = omega (arith, drawable-small c.requires)

pub overflow_cast-result : goal.overflow_cast-result
overflow_cast-result c = omega (arith, (modulus-fits (drawable-small c.requires)).held)

pub invariant_of-result : goal.invariant_of-result
invariant_of-result c = record { drawable = c.requires; made = refl }

pub returns : goal.returns
returns c = (refl, refl)
