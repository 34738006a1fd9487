-- `operand::Operand::one` meets its contract.
use Rattle.std.specs.Prelude.{Ok}
use mathlib.Core.Path.{sym, ap, ◌∙◌}
use mathlib.Core.List.{[], ◌∷◌}
use Rattle.judging.specs.FaultTable.{bad_width}
use Rattle.judging.proofs.CauseLaws.{fine, handed_on, answer-given, answer-refused}
use Rattle.judging.proofs.Passed.{IsWidth, is-width}
use Rattle.operand.proofs.CallLaws.{one-bytes}
use Rattle.operand.proofs.FaultFree.{carry}
use Rattle.operand.proofs.Operand.one.Goals as goal
use Rattle.operand.proofs.Operand.one.Goals.{In_ok-judge_width}

width : (c : In_ok-judge_width) → IsWidth c.args.width
width c = is-width _ (fine (bad_width _ ∷ []) (sym c.judge_width.ensures ∙ c.in_ok-judge_width.was)).0

pub returns-in_err-judge_width : goal.returns-in_err-judge_width
returns-in_err-judge_width c = handed_on c.from_residual.result c.from_residual.ensures.1 (answer-refused _ (sym c.judge_width.ensures ∙ c.in_err-judge_width.was))

pub of-requires : goal.of-requires
of-requires c = (width (goal.at.of-requires c).In_ok-judge_width).greatest

pub returns : goal.returns
returns c =
    ap Ok (c.of.ensures ∙ ap (carry _) (c.cleared.ensures ∙ one-bytes _ (width (goal.at.returns c).In_ok-judge_width).greatest))
    ∙ answer-given _ (sym c.judge_width.ensures ∙ c.in_ok-judge_width.was)
