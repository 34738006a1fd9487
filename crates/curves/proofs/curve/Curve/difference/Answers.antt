-- `curves::curve::Curve::difference` meets its contract.
use mathlib.Core.Path.{sym, ◌∙◌}
use Rattle.judging.proofs.CauseLaws.{handed_on}
use Rattle.curves.specs.Curve.{difference}
use Rattle.curves.proofs.curve.Curve.difference.Goals as goal

pub returns-in_err-left : goal.returns-in_err-left
unfolding difference
returns-in_err-left c = handed_on c.from_residual.result c.from_residual.ensures.1 (rw (sym c.left_side.ensures ∙ c.in_err-left.was))

pub returns-in_err-right : goal.returns-in_err-right
unfolding difference
returns-in_err-right c = handed_on c.from_residual-in_err-right.result c.from_residual-in_err-right.ensures.1 (rw (sym c.left_side.ensures ∙ c.in_ok-left.was, sym c.right_side.ensures ∙ c.in_err-right.was))

pub returns : goal.returns
unfolding difference
returns c = rw (sym c.left_side.ensures ∙ c.in_ok-left.was, sym c.right_side.ensures ∙ c.in_ok-right.was) c.sum.ensures
