-- `card::reading::Reader::width` meets its contract.
use mathlib.Core.Path.{sym, ◌∙◌}
use Rattle.card.proofs.ReadSteps.{told-refused, width-refused, width_some, width-fault}
use Rattle.card.proofs.reading.Reader.width.Goals as goal

pub returns-in_err-width : goal.returns-in_err-width
returns-in_err-width c = told-refused _ c.from_residual.result c.from_residual.ensures.1 (width-refused _ _ (sym c.in_err-width.ensures))

pub returns-in_err-judge_lent : goal.returns-in_err-judge_lent
returns-in_err-judge_lent c =
    told-refused _ c.from_residual-in_err-judge_lent.result c.from_residual-in_err-judge_lent.ensures.1
    (width-fault _ _ (sym c.in_ok-width.ensures) (sym c.judge_lent.ensures ∙ c.in_err-judge_lent.was))

pub returns : goal.returns
returns c = width_some _ _ (sym c.in_ok-width.ensures) (sym c.judge_lent.ensures ∙ c.in_ok-judge_lent.was)
