-- `operand::bytes::solve_into` meets its contract.
use mathlib.Core.Path.{◌≡◌, sym, ◌∙◌}
use mathlib.Core.List.{[], ◌∷◌}
use native.Mathlib.Omega.{arith}
use Rattle.judging.specs.Causes.{judged}
use Rattle.judging.specs.FaultTable.{high_bit, trace_is_one}
use Rattle.judging.proofs.CauseLaws.{ends, follows}
use Rattle.operand.specs.Causes.{solve_bytes_causes}
use Rattle.operand.proofs.CallLaws.{ends-kept, ends-filled, size_causes, Sized, sized, trace-after, root-out}
use Rattle.operand.proofs.bytes.solve_into.Goals as goal
use Rattle.operand.proofs.bytes.solve_into.Goals.{After-judge_solve}

-- lengths that have passed, and the verdict of all causes
sizes : (c : After-judge_solve) → let a = c.args in Sized a.width a.c.now a.res.now
sizes c = sized _ _ _ (sym c.judge_sizes.ensures ∙ c.in_ok-judge_sizes.was)

whole : (c : After-judge_solve) → let a = c.args in c.judge_solve.result ≡ judged (solve_bytes_causes a.width a.c.now a.res.now)
whole c =
    follows (size_causes _ _ _) (high_bit _ _ ∷ trace_is_one _ _ ∷ []) c.judge_sizes.ensures c.in_ok-judge_sizes.was
    (c.judge_solve.ensures ∙ trace-after _ _ _ (omega (arith, (sizes c).operand.size)))

pub returns-in_err-judge_sizes : goal.returns-in_err-judge_sizes
returns-in_err-judge_sizes c =
    ends-kept c.from_residual.result _ _ c.from_residual.ensures.1
    (ends (size_causes _ _ _) (high_bit _ _ ∷ trace_is_one _ _ ∷ []) c.judge_sizes.ensures c.in_err-judge_sizes.was)

pub returns-in_err-judge_solve : goal.returns-in_err-judge_solve
returns-in_err-judge_solve c =
    let e = c.from_residual-in_err-judge_solve in
    ends-kept e.result _ _ e.ensures.1 (sym c.in_err-judge_solve.was ∙ whole (goal.at.returns-in_err-judge_solve c).After-judge_solve)

pub returns : goal.returns
returns c =
    let s = (goal.at.returns c).After-judge_solve in
    let z = sizes s in
    ends-filled _ _ (sym c.in_ok-judge_solve.was ∙ whole s)
    (root-out z.operand z.room c.store.ensures c.slice_limbs.ensures c.root_limbs.ensures)
