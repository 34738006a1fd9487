-- `gaussian::type_of` meets its contract.
use mathlib.Core.Path.{sym, ◌∙◌}
use mathlib.Core.List.{[], ◌∷◌}
use Rattle.judging.specs.FaultTable.{bad_width}
use Rattle.judging.proofs.CauseLaws.{fine, handed_on}
use Rattle.judging.proofs.Passed.{is-width}
use Rattle.gaussian.specs.Causes.{type_zero}
use Rattle.gaussian.proofs.Answers.{answer-ends, answer-follows}
use Rattle.gaussian.proofs.type_of.Goals as goal

pub returns-in_err-judge_width : goal.returns-in_err-judge_width
returns-in_err-judge_width c =
    handed_on c.from_residual.result c.from_residual.ensures.1 (answer-ends _ (bad_width _ ∷ []) (type_zero _ ∷ []) c.judge_width.ensures c.in_err-judge_width.was)

pub listed_type-requires : goal.listed_type-requires
listed_type-requires c =
    let w = is-width _ (fine (bad_width _ ∷ []) (sym c.judge_width.ensures ∙ c.in_ok-judge_width.was)).0 in
    (w.least, w.greatest)

pub returns : goal.returns
returns c =
    answer-follows _ (bad_width _ ∷ []) (type_zero _ ∷ []) c.judge_width.ensures c.in_ok-judge_width.was c.listed_type.ensures
