-- `limbs::limbs::raise_pair` meets its contract.
use Prim.Native.Nat.{◌%◌}
use native.Mathlib.Omega.{arith}
use Rattle.limbs.proofs.LimbLoops.{raise-pair}
use Rattle.limbs.proofs.limbs.raise_pair.Goals as goal

pub returns : goal.returns
returns c = raise-pair c.args.low c.args.high (c.args.s % 64) c.ranges.low.fits (omega arith)
