-- `quadratic::trace` meets its contract.
use mathlib.Core.Path.{◌≡◌}
use Rattle.gf2.specs.Coordinates.{coord}
use Rattle.quadratic.proofs.QuadraticLimbs.{folded_to}
use Rattle.quadratic.proofs.trace.Given as goal

abbrev pub invariant-loop-w : goal.invariant-loop-w
invariant-loop-w l = l.total ≡ folded_to (coord l.s) l.w
