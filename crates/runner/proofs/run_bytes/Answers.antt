-- `runner::run_bytes` meets its contract.
use mathlib.Core.Path.{refl, sym, ◌∙◌}
use mathlib.Core.List.{[], ◌∷◌}
use lib.ListN.{length}
use Rattle.judging.specs.FaultTable.{bad_width, not_w}
use Rattle.judging.proofs.CauseLaws.{ends, follows, handed_on}
use Rattle.operand.proofs.CallLaws.{SizedPair, sized-pair}
use Rattle.runner.specs.Inner.{list_causes}
use Rattle.runner.proofs.JudgeLaws.{list-carried}
use Rattle.runner.proofs.RunLaws.{kept_result, kept-wires, bytes-wires, bytes-result}
use Rattle.runner.proofs.run_bytes.Goals as goal
use Rattle.runner.proofs.run_bytes.Goals.{In_ok-judge_sizes}

-- the lengths have passed
sizes : (c : In_ok-judge_sizes) → let a = c.args in SizedPair a.width a.a.now a.b.now a.res.now
sizes c = let a = c.args in sized-pair a.width a.a.now a.b.now a.res.now (sym c.judge_sizes.ensures ∙ c.in_ok-judge_sizes.was)

pub returns-in_err-judge_sizes : goal.returns-in_err-judge_sizes
returns-in_err-judge_sizes c =
    let a = c.args in
    let m = a.width in
    let r = c.from_residual.result in
    let e = c.from_residual.ensures.1 in (
      handed_on r e (ends (bad_width m ∷ not_w m a.a.now ∷ not_w m a.b.now ∷ not_w m a.res.now ∷ []) (list_causes m a.list.now a.a.now a.b.now (length a.wires.now)) c.judge_sizes.ensures c.in_err-judge_sizes.was),
      kept_result _ _ _ _ _ (handed_on r e refl),
      kept-wires _ _ _ _ _ (handed_on r e refl),
    )

pub run_sized-requires : goal.run_sized-requires
run_sized-requires c = let z = sizes (goal.at.run_sized-requires c).In_ok-judge_sizes in (z.width.least, z.width.greatest, z.room)

pub returns : goal.returns
returns c =
    let z = sizes (goal.at.returns c).In_ok-judge_sizes in
    let a = c.args in
    let m = a.width in
    let l = a.list.now in
    let n = length a.wires.now in
    let v = c.run_sized.result in
    let left = c.carried.ensures in
    let right = c.carried-2.ensures in (
      follows (bad_width m ∷ not_w m a.a.now ∷ not_w m a.b.now ∷ not_w m a.res.now ∷ []) (list_causes m l a.a.now a.b.now n) c.judge_sizes.ensures c.in_ok-judge_sizes.was
          (c.run_sized.ensures.0 ∙ list-carried z.left z.right left right l n),
      bytes-result z.left z.right left right v l a.res.now c.run_sized.ensures.1,
      bytes-wires z.left z.right left right v l a.wires.now c.run_sized.ensures.2,
    )
