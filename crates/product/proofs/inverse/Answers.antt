-- `product::inverse` meets its contract.
use mathlib.Core.Path.{◌≡◌, sym, ap, ◌∙◌}
use Rattle.gf2.specs.Inverse.{inverse, products_made}
use Rattle.judging.specs.Causes.{judged, answered}
use Rattle.judging.proofs.CauseLaws.{ends, goes_on, handed_on, answer-refused}
use Rattle.product.specs.Calls.{counted}
use Rattle.product.specs.Inner.{unit_causes}
use Rattle.product.proofs.Judged.{one_width, first-passed}
use Rattle.product.proofs.inverse.Goals as goal
use Rattle.product.proofs.inverse.Goals.{After-judge_widths}

-- the verdict on the widths
widths : (c : After-judge_widths) → c.judge_widths.result ≡ judged (one_width c.args.width c.args.a)
widths c = rw c.from.ensures at c.judge_widths.ensures

pub returns-in_err-judge_widths : goal.returns-in_err-judge_widths
returns-in_err-judge_widths c =
    let a = c.args in
    handed_on c.from_residual.result c.from_residual.ensures.1
    (answer-refused _ (sym (ends (one_width a.width a.a) (unit_causes a.width a.table.now a.a.bytes) (widths (goal.at.returns-in_err-judge_widths c).After-judge_widths) c.in_err-judge_widths.was)))

pub inverse-requires : goal.inverse-requires
inverse-requires c = first-passed _ _ (sym c.judge_widths.ensures ∙ c.in_ok-judge_widths.was)

pub returns : goal.returns
returns c =
    let a = c.args in
    c.inverse.ensures ∙ ap (λ v. answered v (counted a.width (inverse a.width a.table.now a.a.bytes) (products_made a.width a.table.now a.a.bytes)))
    (sym (goes_on (one_width a.width a.a) (unit_causes _ _ _) (sym (widths (goal.at.returns c).After-judge_widths) ∙ c.in_ok-judge_widths.was)))
