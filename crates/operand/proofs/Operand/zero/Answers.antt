-- `operand::Operand::zero` meets its contract.
use Rattle.std.specs.Prelude.{Ok}
use mathlib.Core.Path.{sym, ap, ◌∙◌}
use mathlib.Core.List.{[], ◌∷◌}
use Rattle.judging.specs.FaultTable.{bad_width}
use Rattle.judging.proofs.CauseLaws.{fine, handed_on, answer-given, answer-refused}
use Rattle.judging.proofs.Passed.{is-width}
use Rattle.operand.proofs.CallLaws.{zero-bytes}
use Rattle.operand.proofs.FaultFree.{carry}
use Rattle.operand.proofs.Operand.zero.Goals as goal

pub returns-in_err-judge_width : goal.returns-in_err-judge_width
returns-in_err-judge_width c = handed_on c.from_residual.result c.from_residual.ensures.1 (answer-refused _ (sym c.judge_width.ensures ∙ c.in_err-judge_width.was))

pub of-requires : goal.of-requires
of-requires c = (is-width _ (fine (bad_width _ ∷ []) (sym c.judge_width.ensures ∙ c.in_ok-judge_width.was)).0).greatest

pub returns : goal.returns
returns c = ap Ok (c.of.ensures ∙ ap (carry _) (zero-bytes _)) ∙ answer-given _ (sym c.judge_width.ensures ∙ c.in_ok-judge_width.was)
