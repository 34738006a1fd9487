-- `operand::judge::judge_solve` meets its contract.
use mathlib.Core.Path.{sym, ◌∙◌}
use mathlib.Core.List.{[], ◌∷◌}
use borrow.Author.Tests.{eq-eqb, ne_eqb}
use Rattle.gf2.specs.Quadratic.{trace}
use Rattle.judging.specs.FaultTable.{high_bit, trace_is_one}
use Rattle.judging.proofs.CauseLaws.{head-holds, none-given, ends, follows, handed_on}
use Rattle.operand.proofs.judge.judge_solve.Goals as goal

pub returns-in_err-judge_high : goal.returns-in_err-judge_high
returns-in_err-judge_high c = handed_on c.from_residual.result c.from_residual.ensures.1 (ends (high_bit _ _ ∷ []) (trace_is_one _ _ ∷ []) c.judge_high.ensures c.in_err-judge_high.was)

pub returns-then-trace-eq1 : goal.returns-then-trace-eq1
returns-then-trace-eq1 c = follows (high_bit _ _ ∷ []) (trace_is_one _ _ ∷ []) c.judge_high.ensures c.in_ok-judge_high.was
    (unfold trace in sym (head-holds (trace_is_one _ _) [] (eq-eqb _ 1 (sym c.trace.ensures ∙ c.if-trace-eq1.true))))

pub returns : goal.returns
returns c = follows (high_bit _ _ ∷ []) (trace_is_one _ _ ∷ []) c.judge_high.ensures c.in_ok-judge_high.was
    (unfold trace in sym (none-given (trace_is_one _ _ ∷ []) (ne_eqb _ 1 (λ e. c.if-trace-eq1.false (c.trace.ensures ∙ e)), tt)))
