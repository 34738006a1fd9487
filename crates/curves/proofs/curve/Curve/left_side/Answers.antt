-- `curves::curve::Curve::left_side` meets its contract.
use mathlib.Core.Path.{sym, ◌∙◌}
use Rattle.judging.proofs.CauseLaws.{handed_on}
use Rattle.curves.specs.Curve.{left_side}
use Rattle.curves.proofs.curve.Curve.left_side.Goals as goal

pub returns-in_err-square : goal.returns-in_err-square
unfolding left_side
returns-in_err-square c = handed_on c.from_residual.result c.from_residual.ensures.1 (rw (sym c.square.ensures ∙ c.in_err-square.was))

pub returns-in_err-product : goal.returns-in_err-product
unfolding left_side
returns-in_err-product c = handed_on c.from_residual-in_err-product.result c.from_residual-in_err-product.ensures.1 (rw (sym c.square.ensures ∙ c.in_ok-square.was, sym c.multiply.ensures ∙ c.in_err-product.was))

pub returns : goal.returns
unfolding left_side
returns c = rw (sym c.square.ensures ∙ c.in_ok-square.was, sym c.multiply.ensures ∙ c.in_ok-product.was) c.sum.ensures
