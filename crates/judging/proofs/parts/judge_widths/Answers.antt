-- `judging::parts::judge_widths` meets its contract.
use mathlib.Core.Path.{ap, ◌∙◌}
use mathlib.Core.List.{[], ◌∷◌, map}
use Rattle.judging.specs.Causes.{judged}
use Rattle.judging.specs.FaultTable.{bad_width, bad_length, high_bit}
use Rattle.judging.proofs.CauseLaws.{ends, follows, handed_on}
use Rattle.judging.proofs.parts.judge_widths.Goals as goal

pub returns-in_err-judge_width : goal.returns-in_err-judge_width
returns-in_err-judge_width c =
    handed_on c.from_residual.result c.from_residual.ensures.1 (ends (bad_width _ ∷ []) (bad_width _ ∷ bad_length _ _ ∷ []) c.judge_width.ensures c.in_err-judge_width.was)

pub returns-in_err-judge_width-2 : goal.returns-in_err-judge_width-2
returns-in_err-judge_width-2 c =
    handed_on c.from_residual-in_err-judge_width-2.result c.from_residual-in_err-judge_width-2.ensures.1
    (follows (bad_width _ ∷ []) (bad_width _ ∷ bad_length _ _ ∷ []) c.judge_width.ensures c.in_ok-judge_width.was
    (ends (bad_width _ ∷ []) (bad_length _ _ ∷ []) c.judge_width-2.ensures c.in_err-judge_width-2.was))

pub returns : goal.returns
returns c =
    follows (bad_width _ ∷ []) (bad_width _ ∷ bad_length _ _ ∷ []) c.judge_width.ensures c.in_ok-judge_width.was
    (follows (bad_width _ ∷ []) (bad_length _ _ ∷ []) c.judge_width-2.ensures c.in_ok-judge_width-2.was c.judge_length.ensures)
