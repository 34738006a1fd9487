-- `operand::judge::judge_pair` meets its contract.
use mathlib.Core.List.{[], ◌∷◌}
use Rattle.judging.specs.FaultTable.{bad_width, bad_length, high_bit}
use Rattle.judging.proofs.CauseLaws.{ends, follows, handed_on}
use Rattle.operand.proofs.judge.judge_pair.Goals as goal

pub returns-in_err-judge_widths : goal.returns-in_err-judge_widths
returns-in_err-judge_widths c =
    handed_on c.from_residual.result c.from_residual.ensures.1
    (ends (bad_width _ ∷ bad_width _ ∷ bad_length _ _ ∷ []) (high_bit _ _ ∷ high_bit _ _ ∷ []) (rw (c.from-m.ensures, c.from-n.ensures) at c.judge_widths.ensures) c.in_err-judge_widths.was)

pub returns : goal.returns
returns c = rw (c.from-m.ensures, c.from-n.ensures) at
    (follows (bad_width _ ∷ bad_width _ ∷ bad_length _ _ ∷ []) (high_bit _ _ ∷ high_bit _ _ ∷ []) c.judge_widths.ensures c.in_ok-judge_widths.was c.judge_both_high_carried.ensures)
