-- `equivalence::outputs::in_set` meets its contract.
use mathlib.Core.Path.{refl}
use Rattle.limbs.specs.Limbs.{limb_coord}
use Rattle.equivalence.proofs.outputs.in_set.Goals as goal

pub returns : goal.returns
unfolding limb_coord
returns c = refl
