-- `judging::parts::judge_pair_widths` meets its contract.
use mathlib.Core.Path.{ap, ◌∙◌}
use mathlib.Core.List.{[], ◌∷◌, map}
use Rattle.judging.specs.Causes.{judged}
use Rattle.judging.specs.FaultTable.{bad_width, bad_length, high_bit}
use Rattle.judging.proofs.CauseLaws.{ends, follows, handed_on}
use Rattle.judging.proofs.parts.judge_pair_widths.Goals as goal

pub returns-in_err-judge_width : goal.returns-in_err-judge_width
returns-in_err-judge_width c =
    handed_on c.from_residual.result c.from_residual.ensures.1 (ends (bad_width _ ∷ []) (bad_width _ ∷ bad_width _ ∷ bad_length _ _ ∷ bad_length _ _ ∷ []) c.judge_width.ensures c.in_err-judge_width.was)

pub returns-in_err-judge_widths : goal.returns-in_err-judge_widths
returns-in_err-judge_widths c =
    handed_on c.from_residual-in_err-judge_widths.result c.from_residual-in_err-judge_widths.ensures.1
    (follows (bad_width _ ∷ []) (bad_width _ ∷ bad_width _ ∷ bad_length _ _ ∷ bad_length _ _ ∷ []) c.judge_width.ensures c.in_ok-judge_width.was
    (ends (bad_width _ ∷ bad_width _ ∷ bad_length _ _ ∷ []) (bad_length _ _ ∷ []) c.judge_widths.ensures c.in_err-judge_widths.was))

pub returns : goal.returns
returns c =
    follows (bad_width _ ∷ []) (bad_width _ ∷ bad_width _ ∷ bad_length _ _ ∷ bad_length _ _ ∷ []) c.judge_width.ensures c.in_ok-judge_width.was
    (follows (bad_width _ ∷ bad_width _ ∷ bad_length _ _ ∷ []) (bad_length _ _ ∷ []) c.judge_widths.ensures c.in_ok-judge_widths.was c.judge_length.ensures)
