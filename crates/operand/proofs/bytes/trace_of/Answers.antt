-- `operand::bytes::trace_of` meets its contract.
use Rattle.std.specs.Prelude.{Ok}
use mathlib.Core.Path.{◌≡◌, sym, ap, ◌∙◌}
use mathlib.Core.List.{[], ◌∷◌}
use native.Mathlib.Omega.{arith}
use Rattle.judging.specs.Causes.{judged}
use Rattle.judging.specs.FaultTable.{high_bit}
use Rattle.judging.proofs.CauseLaws.{fine, ends, follows, handed_on, answer-given, answer-refused}
use Rattle.judging.proofs.Passed.{is-clear}
use Rattle.operand.specs.Causes.{bytes_causes}
use Rattle.operand.proofs.CallLaws.{one_size, has-size, trace-bytes}
use Rattle.operand.proofs.bytes.trace_of.Goals as goal
use Rattle.operand.proofs.bytes.trace_of.Goals.{After-judge_high}

-- the verdict of all causes
whole : (c : After-judge_high) → let a = c.args in c.judge_high.result ≡ judged (bytes_causes a.width a.a.now)
whole c = follows (one_size _ _) (high_bit _ _ ∷ []) c.judge_sizes.ensures c.in_ok-judge_sizes.was c.judge_high.ensures

pub returns-in_err-judge_sizes : goal.returns-in_err-judge_sizes
returns-in_err-judge_sizes c =
    handed_on c.from_residual.result c.from_residual.ensures.1 (answer-refused _ (sym (ends (one_size _ _) (high_bit _ _ ∷ []) c.judge_sizes.ensures c.in_err-judge_sizes.was)))

pub returns-in_err-judge_high : goal.returns-in_err-judge_high
returns-in_err-judge_high c =
    handed_on c.from_residual-in_err-judge_high.result c.from_residual-in_err-judge_high.ensures.1 (answer-refused _ (sym (whole (goal.at.returns-in_err-judge_high c).After-judge_high) ∙ c.in_err-judge_high.was))

pub returns : goal.returns
returns c =
    let a = c.args in
    let h = has-size _ a.a.now (sym c.judge_sizes.ensures ∙ c.in_ok-judge_sizes.was) in
    let p = fine (high_bit a.width a.a.now ∷ []) (sym c.judge_high.ensures ∙ c.in_ok-judge_high.was) in
    ap Ok (c.from.ensures ∙ c.trace.ensures ∙ trace-bytes _ _ _ (omega (arith, h.size)) (is-clear _ _ p.0))
    ∙ answer-given _ (sym (whole (goal.at.returns c).After-judge_high) ∙ c.in_ok-judge_high.was)
