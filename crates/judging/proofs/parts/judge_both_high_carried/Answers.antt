-- `judging::parts::judge_both_high_carried` meets its contract.
use mathlib.Core.Path.{ap, ◌∙◌}
use mathlib.Core.List.{[], ◌∷◌, map}
use Rattle.judging.specs.Causes.{judged}
use Rattle.judging.specs.FaultTable.{bad_width, bad_length, high_bit}
use Rattle.judging.proofs.CauseLaws.{ends, follows, handed_on}
use Rattle.judging.proofs.parts.judge_both_high_carried.Goals as goal

pub returns-in_err-judge_high_carried : goal.returns-in_err-judge_high_carried
returns-in_err-judge_high_carried c =
    handed_on c.from_residual.result c.from_residual.ensures.1 (ends (high_bit _ _ ∷ []) (high_bit _ _ ∷ []) c.judge_high_carried.ensures c.in_err-judge_high_carried.was)

pub returns : goal.returns
returns c = follows (high_bit _ _ ∷ []) (high_bit _ _ ∷ []) c.judge_high_carried.ensures c.in_ok-judge_high_carried.was c.judge_high_carried-2.ensures
