-- `operand::judge::judge_operand` meets its contract.
use mathlib.Core.List.{[], ◌∷◌}
use Rattle.judging.specs.FaultTable.{bad_width, high_bit}
use Rattle.judging.proofs.CauseLaws.{ends, follows, handed_on}
use Rattle.operand.proofs.judge.judge_operand.Goals as goal

pub returns-in_err-judge_width : goal.returns-in_err-judge_width
returns-in_err-judge_width c =
    handed_on c.from_residual.result c.from_residual.ensures.1 (ends (bad_width _ ∷ []) (high_bit _ _ ∷ []) (rw c.from-m.ensures at c.judge_width.ensures) c.in_err-judge_width.was)

pub returns : goal.returns
returns c = rw c.from-m.ensures at (follows (bad_width _ ∷ []) (high_bit _ _ ∷ []) c.judge_width.ensures c.in_ok-judge_width.was c.judge_high_carried.ensures)
