-- `curves::curve::Curve::has` meets its contract.
use mathlib.Core.Path.{sym, ◌∙◌}
use Rattle.curves.specs.Curve.{on_curve}
use Rattle.curves.proofs.curve.Curve.has.Goals as goal

pub returns-in-Ok : goal.returns-in-Ok
unfolding on_curve
returns-in-Ok c = rw (sym c.difference.ensures ∙ c.in-Ok.is) c.is_clear_carried.ensures

pub returns-in-Err : goal.returns-in-Err
unfolding on_curve
returns-in-Err c = rw (sym c.difference.ensures ∙ c.in-Err.is)
