-- `ones::limb_ones` meets its contract.
use Rattle.std.proofs.Common.{arith}
use lib.Count.{ones-le}
use Rattle.gf2.proofs.Sums.{count_bits}
use Rattle.ones.proofs.limb_ones.Goals as goal

pub overflow_cast-result : goal.overflow_cast-result
overflow_cast-result c = omega (arith, ones-le 64 c.args.limb c.ranges.limb.fits)

pub returns : goal.returns
returns c = count_bits 64 c.args.limb c.ranges.limb.fits
