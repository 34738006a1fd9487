-- `limbs::limbs::lower_pair` meets its contract.
use Prim.Native.Nat.{◌%◌}
use native.Mathlib.Omega.{arith}
use Rattle.limbs.proofs.LimbLoops.{lower-pair}
use Rattle.limbs.proofs.limbs.lower_pair.Goals as goal

pub returns : goal.returns
returns c = lower-pair c.args.low c.args.high (c.args.s % 64) c.ranges.low.fits (omega arith)
