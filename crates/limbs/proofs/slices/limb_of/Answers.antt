-- `limbs::slices::limb_of` meets its contract.
use native.Mathlib.Omega.{arith}
use Rattle.limbs.proofs.LimbCoords.{limb-none}
use Rattle.limbs.proofs.slices.limb_of.Goals as goal

pub returns-then-s-w : goal.returns-then-s-w
returns-then-s-w c = limb-none c.args.s.now _ (omega arith)
