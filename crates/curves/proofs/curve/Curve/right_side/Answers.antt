-- `curves::curve::Curve::right_side` meets its contract.
use mathlib.Core.Path.{sym, ◌∙◌}
use Rattle.judging.proofs.CauseLaws.{handed_on}
use Rattle.curves.specs.Curve.{right_side}
use Rattle.curves.proofs.curve.Curve.right_side.Goals as goal

pub returns-in_err-cube_and_term : goal.returns-in_err-cube_and_term
unfolding right_side
returns-in_err-cube_and_term c = handed_on c.from_residual.result c.from_residual.ensures.1 (rw (sym c.cube_and_term.ensures ∙ c.in_err-cube_and_term.was))

pub returns : goal.returns
unfolding right_side
returns c = rw (sym c.cube_and_term.ensures ∙ c.in_ok-cube_and_term.was) c.sum.ensures
