-- `operand::Operand::trace` meets its contract.
use Rattle.std.specs.Prelude.{Ok}
use mathlib.Core.Path.{sym, ap, ◌∙◌}
use Rattle.judging.proofs.CauseLaws.{fine, handed_on, answer-given, answer-refused}
use Rattle.judging.proofs.Passed.{is-width, is-clear}
use Rattle.operand.specs.Causes.{operand_causes}
use Rattle.operand.proofs.CallLaws.{trace-bytes}
use native.Mathlib.Omega.{arith}
use Rattle.operand.proofs.Operand.trace.Goals as goal

pub returns-in_err-judge_operand : goal.returns-in_err-judge_operand
returns-in_err-judge_operand c = handed_on c.from_residual.result c.from_residual.ensures.1 (answer-refused _ (sym c.judge_operand.ensures ∙ c.in_err-judge_operand.was))

pub returns : goal.returns
returns c =
    let a = c.args.self in
    let n = sym c.judge_operand.ensures ∙ c.in_ok-judge_operand.was in
    let p = fine (operand_causes a) n in
    ap Ok (c.from.ensures ∙ c.trace.ensures ∙ trace-bytes _ _ _ (omega (arith, (is-width a.width p.0).greatest)) (is-clear _ _ p.1.0)) ∙ answer-given _ n
