-- `quadratic::prefix_sums` meets its contract.
use Prim.Native.Nat.{◌^◌}
use Rattle.quadratic.proofs.QuadraticLimbs.{Window}
use Rattle.quadratic.proofs.prefix_sums.Given as goal

abbrev pub invariant-loop-shift : goal.invariant-loop-shift
invariant-loop-shift l = Window l.x (2 ^ l.shift-index) l.sums
