-- `runner::run` meets its contract.
use mathlib.Core.Path.{refl, sym, ◌∙◌}
use lib.ListN.{length}
use Rattle.judging.proofs.CauseLaws.{fine, ends, follows, handed_on}
use Rattle.judging.proofs.Passed.{is-width, as-laid-down}
use Rattle.runner.specs.Inner.{carried_causes, list_causes}
use Rattle.runner.proofs.RunLaws.{kept_result, kept-wires}
use Rattle.runner.proofs.run.Goals as goal

pub returns-in_err-judge_carried : goal.returns-in_err-judge_carried
returns-in_err-judge_carried c =
    let a = c.args in
    let r = c.from_residual.result in
    let e = c.from_residual.ensures.1 in (
      handed_on r e (ends (carried_causes a.width a.a a.b (length a.res.now)) (list_causes a.width a.list.now a.a.bytes a.b.bytes (length a.wires.now)) c.judge_carried.ensures c.in_err-judge_carried.was),
      kept_result _ _ _ _ _ (handed_on r e refl),
      kept-wires _ _ _ _ _ (handed_on r e refl),
    )

pub run_sized-requires : goal.run_sized-requires
run_sized-requires c =
    let a = c.args in
    let p = fine (carried_causes a.width a.a a.b (length a.res.now)) (sym c.judge_carried.ensures ∙ c.in_ok-judge_carried.was) in
    let w = is-width a.width p.0 in
    (w.least, w.greatest, as-laid-down _ _ p.1.1.1.1.1.0)

pub returns : goal.returns
returns c =
    let a = c.args in (
      follows (carried_causes a.width a.a a.b (length a.res.now)) (list_causes a.width a.list.now a.a.bytes a.b.bytes (length a.wires.now)) c.judge_carried.ensures c.in_ok-judge_carried.was c.run_sized.ensures.0,
      c.run_sized.ensures.1,
      c.run_sized.ensures.2,
    )
