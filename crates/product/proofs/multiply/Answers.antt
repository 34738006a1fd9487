-- `product::multiply` meets its contract.
use mathlib.Core.Path.{◌≡◌, sym, ap, ◌∙◌}
use Rattle.operand.specs.Calls.{answer}
use Rattle.judging.specs.Causes.{judged}
use Rattle.judging.proofs.CauseLaws.{ends, goes_on, handed_on, answer-refused}
use Rattle.product.specs.Calls.{multiplied}
use Rattle.product.specs.Inner.{factor_causes}
use Rattle.product.proofs.Judged.{pair_widths, first-passed, causes-by, call-by}
use Rattle.product.proofs.multiply.Goals as goal
use Rattle.product.proofs.multiply.Goals.{After-judge_pair_widths}

-- the verdict on the widths
widths : (c : After-judge_pair_widths) → c.judge_pair_widths.result ≡ judged (pair_widths c.args.width c.args.a c.args.b)
widths c = rw (c.from.ensures, c.from-2.ensures) at c.judge_pair_widths.ensures

pub returns-in_err-judge_pair_widths : goal.returns-in_err-judge_pair_widths
returns-in_err-judge_pair_widths c =
    let a = c.args in
    handed_on c.from_residual.result c.from_residual.ensures.1
    (call-by a.width a.table.now a.method a.a a.b
    (answer-refused _ (sym (causes-by a.width a.table.now a.method a.a a.b) ∙ sym (ends (pair_widths a.width a.a a.b) (factor_causes a.method a.width a.table.now a.a.bytes a.b.bytes) (widths (goal.at.returns-in_err-judge_pair_widths c).After-judge_pair_widths) c.in_err-judge_pair_widths.was))))

pub product-requires : goal.product-requires
product-requires c = first-passed _ _ (sym c.judge_pair_widths.ensures ∙ c.in_ok-judge_pair_widths.was)

pub returns : goal.returns
returns c =
    let a = c.args in
    call-by a.width a.table.now a.method a.a a.b
    (c.product.ensures ∙ ap (λ v. answer v a.width (multiplied a.method a.width a.table.now a.a.bytes a.b.bytes))
    (sym (goes_on (pair_widths a.width a.a a.b) (factor_causes _ _ _ _ _) (sym (widths (goal.at.returns c).After-judge_pair_widths) ∙ c.in_ok-judge_pair_widths.was)) ∙ causes-by a.width a.table.now a.method a.a a.b))
