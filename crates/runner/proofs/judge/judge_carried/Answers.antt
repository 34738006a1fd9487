-- `runner::judge::judge_carried` meets its contract.
use mathlib.Core.Path.{◌∙◌, ap}
use mathlib.Core.List.{[], ◌∷◌}
use Rattle.judging.specs.Causes.{judged}
use Rattle.judging.specs.FaultTable.{bad_width, bad_length}
use Rattle.judging.proofs.CauseLaws.{ends, follows, handed_on}
use Rattle.runner.specs.Inner.{length_causes}
use Rattle.runner.proofs.judge.judge_carried.Goals as goal

pub returns-in_err-judge_width : goal.returns-in_err-judge_width
returns-in_err-judge_width c =
    handed_on c.from_residual.result c.from_residual.ensures.1
    (ends (bad_width _ ∷ []) (bad_width _ ∷ bad_width _ ∷ length_causes _ _ _ _ _ _) c.judge_width.ensures c.in_err-judge_width.was)

pub returns-in_err-judge_width-2 : goal.returns-in_err-judge_width-2
returns-in_err-judge_width-2 c =
    handed_on c.from_residual-in_err-judge_width-2.result c.from_residual-in_err-judge_width-2.ensures.1
    (follows (bad_width _ ∷ []) (bad_width _ ∷ bad_width _ ∷ length_causes _ _ _ _ _ _) c.judge_width.ensures c.in_ok-judge_width.was
    (ends (bad_width _ ∷ []) (bad_width _ ∷ length_causes _ _ _ _ _ _) c.judge_width-2.ensures c.in_err-judge_width-2.was))

pub returns-in_err-judge_width-3 : goal.returns-in_err-judge_width-3
returns-in_err-judge_width-3 c =
    handed_on c.from_residual-in_err-judge_width-3.result c.from_residual-in_err-judge_width-3.ensures.1
    (follows (bad_width _ ∷ []) (bad_width _ ∷ bad_width _ ∷ length_causes _ _ _ _ _ _) c.judge_width.ensures c.in_ok-judge_width.was
    (follows (bad_width _ ∷ []) (bad_width _ ∷ length_causes _ _ _ _ _ _) c.judge_width-2.ensures c.in_ok-judge_width-2.was
    (ends (bad_width _ ∷ []) (length_causes _ _ _ _ _ _) c.judge_width-3.ensures c.in_err-judge_width-3.was)))

pub returns-in_err-judge_lengths : goal.returns-in_err-judge_lengths
returns-in_err-judge_lengths c =
    handed_on c.from_residual-in_err-judge_lengths.result c.from_residual-in_err-judge_lengths.ensures.1
    (follows (bad_width _ ∷ []) (bad_width _ ∷ bad_width _ ∷ length_causes _ _ _ _ _ _) c.judge_width.ensures c.in_ok-judge_width.was
    (follows (bad_width _ ∷ []) (bad_width _ ∷ length_causes _ _ _ _ _ _) c.judge_width-2.ensures c.in_ok-judge_width-2.was
    (follows (bad_width _ ∷ []) (length_causes _ _ _ _ _ _) c.judge_width-3.ensures c.in_ok-judge_width-3.was
    (ends (bad_length _ _ ∷ bad_length _ _ ∷ []) (bad_length _ _ ∷ []) c.judge_lengths.ensures c.in_err-judge_lengths.was))))

pub returns : goal.returns
returns c =
    let a = c.args in
    follows (bad_width _ ∷ []) (bad_width _ ∷ bad_width _ ∷ length_causes _ _ _ _ _ _) c.judge_width.ensures c.in_ok-judge_width.was
    (follows (bad_width _ ∷ []) (bad_width _ ∷ length_causes _ _ _ _ _ _) c.judge_width-2.ensures c.in_ok-judge_width-2.was
    (follows (bad_width _ ∷ []) (length_causes _ _ _ _ _ _) c.judge_width-3.ensures c.in_ok-judge_width-3.was
    (follows (bad_length _ _ ∷ bad_length _ _ ∷ []) (bad_length _ _ ∷ []) c.judge_lengths.ensures c.in_ok-judge_lengths.was
    (c.judge_length.ensures ∙ ap (λ k. judged (bad_length a.res k ∷ [])) c.bytes_for.ensures))))
