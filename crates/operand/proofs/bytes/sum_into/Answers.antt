-- `operand::bytes::sum_into` meets its contract.
use mathlib.Core.Path.{◌≡◌, sym, ◌∙◌}
use mathlib.Core.List.{[], ◌∷◌}
use Rattle.judging.specs.Causes.{judged}
use Rattle.judging.specs.FaultTable.{high_bit}
use Rattle.judging.proofs.CauseLaws.{fine, ends, follows}
use Rattle.judging.proofs.Passed.{is-clear}
use Rattle.operand.specs.Causes.{sum_bytes_causes}
use Rattle.operand.proofs.CallLaws.{ends-kept, ends-filled, pair_sizes, sized-pair, sum-out}
use Rattle.operand.proofs.bytes.sum_into.Goals as goal
use Rattle.operand.proofs.bytes.sum_into.Goals.{After-judge_both_high}

-- the verdict of all causes
whole : (c : After-judge_both_high) → let a = c.args in c.judge_both_high.result ≡ judged (sum_bytes_causes a.width a.a.now a.b.now a.res.now)
whole c = follows (pair_sizes _ _ _ _) (high_bit _ _ ∷ high_bit _ _ ∷ []) c.judge_sizes.ensures c.in_ok-judge_sizes.was c.judge_both_high.ensures

pub returns-in_err-judge_sizes : goal.returns-in_err-judge_sizes
returns-in_err-judge_sizes c =
    ends-kept c.from_residual.result _ _ c.from_residual.ensures.1 (ends (pair_sizes _ _ _ _) (high_bit _ _ ∷ high_bit _ _ ∷ []) c.judge_sizes.ensures c.in_err-judge_sizes.was)

pub returns-in_err-judge_both_high : goal.returns-in_err-judge_both_high
returns-in_err-judge_both_high c =
    let e = c.from_residual-in_err-judge_both_high in
    ends-kept e.result _ _ e.ensures.1 (sym c.in_err-judge_both_high.was ∙ whole (goal.at.returns-in_err-judge_both_high c).After-judge_both_high)

pub returns : goal.returns
returns c =
    let a = c.args in
    let z = sized-pair _ a.a.now a.b.now a.res.now (sym c.judge_sizes.ensures ∙ c.in_ok-judge_sizes.was) in
    let p = fine (high_bit a.width a.a.now ∷ high_bit a.width a.b.now ∷ []) (sym c.judge_both_high.ensures ∙ c.in_ok-judge_both_high.was) in
    ends-filled _ _ (sym c.in_ok-judge_both_high.was ∙ whole (goal.at.returns c).After-judge_both_high)
    (sum-out z.left z.right (is-clear _ _ p.0) (is-clear _ _ p.1.0) z.room c.store.ensures c.xored_slices.ensures)
