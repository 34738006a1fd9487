-- `curves::curve::Curve::cube_and_term` meets its contract.
use mathlib.Core.Path.{sym, ◌∙◌}
use Rattle.judging.proofs.CauseLaws.{handed_on}
use Rattle.curves.specs.Curve.{cube_and_term}
use Rattle.curves.proofs.curve.Curve.cube_and_term.Goals as goal

pub returns-in_err-square : goal.returns-in_err-square
unfolding cube_and_term
returns-in_err-square c = handed_on c.from_residual.result c.from_residual.ensures.1 (rw (sym c.square.ensures ∙ c.in_err-square.was))

pub returns-in_err-cube : goal.returns-in_err-cube
unfolding cube_and_term
returns-in_err-cube c = handed_on c.from_residual-in_err-cube.result c.from_residual-in_err-cube.ensures.1 (rw (sym c.square.ensures ∙ c.in_ok-square.was, sym c.multiply.ensures ∙ c.in_err-cube.was))

pub returns-in_err-term : goal.returns-in_err-term
unfolding cube_and_term
returns-in_err-term c = handed_on c.from_residual-in_err-term.result c.from_residual-in_err-term.ensures.1 (rw (sym c.square.ensures ∙ c.in_ok-square.was, sym c.multiply.ensures ∙ c.in_ok-cube.was, sym c.multiply-2.ensures ∙ c.in_err-term.was))

pub returns : goal.returns
unfolding cube_and_term
returns c = rw (sym c.square.ensures ∙ c.in_ok-square.was, sym c.multiply.ensures ∙ c.in_ok-cube.was, sym c.multiply-2.ensures ∙ c.in_ok-term.was) c.sum.ensures
