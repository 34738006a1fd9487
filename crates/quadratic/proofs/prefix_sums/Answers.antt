-- `quadratic::prefix_sums` meets its contract.
use native.Mathlib.Omega.{arith}
use Rattle.quadratic.proofs.QuadraticLimbs.{window-one, shift-fits, window-next, window-all, window-carry}
use Rattle.quadratic.proofs.prefix_sums.Goals as goal

pub loop-shift-init : goal.loop-shift-init
loop-shift-init c = window-one c.args.x c.ranges.x.fits

pub overflow_shl-sums : goal.overflow_shl-sums
overflow_shl-sums c = shift-fits c.loop-shift.shift-index c.loop-shift-test.true

pub loop-shift-preserved : goal.loop-shift-preserved
loop-shift-preserved c = window-next c.loop-shift.shift-index c.loop-shift-test.true c.loop-shift.invariant

pub overflow_mul-result : goal.overflow_mul-result
overflow_mul-result c = omega (arith, c.requires)

pub returns : goal.returns
returns c = window-carry c.args.carry (window-all c.loop-shift.shift-index (omega arith) c.loop-shift.invariant) c.requires
