-- `limbs::limbs::low_limb` meets its contract.
use Rattle.limbs.proofs.limbs.low_limb.Goals as goal

pub returns : goal.returns
returns c = c.mask.ensures c.args.limb c.ranges.limb.fits
