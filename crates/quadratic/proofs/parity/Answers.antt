-- `quadratic::parity` meets its contract.
use mathlib.Core.Path.{ap}
use Prim.Native.Nat.{◌%◌}
use Rattle.gf2.proofs.Sums.{count_bits}
use Rattle.quadratic.proofs.parity.Goals as goal

pub returns : goal.returns
returns c = ap (λ n. n % 2) (count_bits 64 c.args.x c.ranges.x.fits)
