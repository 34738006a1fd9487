-- `operand::bytes::one_into` meets its contract.
use mathlib.Core.Path.{sym, ◌∙◌}
use Rattle.operand.proofs.CallLaws.{ends-kept, ends-filled, has-size, one_out}
use Rattle.operand.proofs.bytes.one_into.Goals as goal

pub returns-in_err-judge_sizes : goal.returns-in_err-judge_sizes
returns-in_err-judge_sizes c = ends-kept c.from_residual.result _ _ c.from_residual.ensures.1 (sym c.in_err-judge_sizes.was ∙ c.judge_sizes.ensures)

pub returns : goal.returns
returns c =
    let e = sym c.judge_sizes.ensures ∙ c.in_ok-judge_sizes.was in
    let z = has-size _ c.args.res.now e in
    ends-filled _ _ (sym e) (one_out _ z.greatest z.size c.store.ensures c.low_limbs.ensures)
