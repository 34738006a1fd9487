-- `operand::Operand::write` meets its contract.
use mathlib.Core.Path.{◌≡◌, sym, ◌∙◌}
use mathlib.Core.List.{[], ◌∷◌}
use lib.ListN.{length}
use Rattle.judging.specs.Causes.{judged}
use Rattle.judging.specs.FaultTable.{high_bit}
use Rattle.judging.proofs.CauseLaws.{ends, follows, handed_on}
use Rattle.operand.specs.Causes.{room_causes}
use Rattle.operand.proofs.CallLaws.{kept, filled, one_size}
use Rattle.operand.proofs.Operand.write.Goals as goal
use Rattle.operand.proofs.Operand.write.Goals.{After-judge_high_carried}

-- the verdict of all causes
whole : (c : After-judge_high_carried) → c.judge_high_carried.result ≡ judged (room_causes c.args.self (length c.args.out.now))
whole c = rw c.from-m.ensures at (follows (one_size _ _) (high_bit _ _ ∷ []) c.judge_sizes.ensures c.in_ok-judge_sizes.was c.judge_high_carried.ensures)

pub returns-in_err-judge_sizes : goal.returns-in_err-judge_sizes
returns-in_err-judge_sizes c =
    let a = c.args in
    let e = ends (one_size _ _) (high_bit _ a.self.bytes ∷ []) (rw c.from-m.ensures at c.judge_sizes.ensures) c.in_err-judge_sizes.was in
    record { verdict = handed_on c.from_residual.result c.from_residual.ensures.1 e; bytes = kept _ _ (sym e) }

pub returns-in_err-judge_high_carried : goal.returns-in_err-judge_high_carried
returns-in_err-judge_high_carried c =
    let e = sym (whole (goal.at.returns-in_err-judge_high_carried c).After-judge_high_carried) ∙ c.in_err-judge_high_carried.was in
    record { verdict = handed_on c.from_residual-in_err-judge_high_carried.result c.from_residual-in_err-judge_high_carried.ensures.1 (sym e); bytes = kept _ _ e }

pub returns : goal.returns
returns c =
    let e = sym (whole (goal.at.returns c).After-judge_high_carried) ∙ c.in_ok-judge_high_carried.was in
    record { verdict = sym e; bytes = filled _ _ e c.copy_out.ensures }
