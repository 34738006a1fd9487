-- `operand::bytes::turn_into` meets its contract.
use mathlib.Core.Path.{◌≡◌, sym, ◌∙◌}
use mathlib.Core.List.{[], ◌∷◌}
use Rattle.judging.specs.Causes.{judged}
use Rattle.judging.specs.FaultTable.{high_bit}
use Rattle.judging.proofs.CauseLaws.{fine, ends, follows}
use Rattle.judging.proofs.Passed.{is-clear}
use Rattle.operand.specs.Causes.{turn_bytes_causes}
use Rattle.operand.proofs.CallLaws.{ends-kept, ends-filled, size_causes, sized, turn-out}
use Rattle.operand.proofs.bytes.turn_into.Goals as goal
use Rattle.operand.proofs.bytes.turn_into.Goals.{After-judge_high}

-- the verdict of all causes
whole : (c : After-judge_high) → let a = c.args in c.judge_high.result ≡ judged (turn_bytes_causes a.width a.a.now a.res.now)
whole c = follows (size_causes _ _ _) (high_bit _ _ ∷ []) c.judge_sizes.ensures c.in_ok-judge_sizes.was c.judge_high.ensures

pub returns-in_err-judge_sizes : goal.returns-in_err-judge_sizes
returns-in_err-judge_sizes c =
    ends-kept c.from_residual.result _ _ c.from_residual.ensures.1 (ends (size_causes _ _ _) (high_bit _ _ ∷ []) c.judge_sizes.ensures c.in_err-judge_sizes.was)

pub returns-in_err-judge_high : goal.returns-in_err-judge_high
returns-in_err-judge_high c =
    let e = c.from_residual-in_err-judge_high in
    ends-kept e.result _ _ e.ensures.1 (sym c.in_err-judge_high.was ∙ whole (goal.at.returns-in_err-judge_high c).After-judge_high)

pub returns : goal.returns
returns c =
    let a = c.args in
    let z = sized _ a.a.now a.res.now (sym c.judge_sizes.ensures ∙ c.in_ok-judge_sizes.was) in
    let p = fine (high_bit a.width a.a.now ∷ []) (sym c.judge_high.ensures ∙ c.in_ok-judge_high.was) in
    ends-filled _ _ (sym c.in_ok-judge_high.was ∙ whole (goal.at.returns c).After-judge_high)
    (turn-out _ z.width z.operand (is-clear _ _ p.0) z.room c.store.ensures c.slice_limbs.ensures c.rolled_limbs.ensures)
