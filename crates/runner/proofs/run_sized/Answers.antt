-- `runner::run_sized` meets its contract.
use mathlib.Core.Path.{refl, sym, ◌∙◌}
use native.Mathlib.Omega.{arith}
use lib.ListN.{length}
use Rattle.judging.proofs.CauseLaws.{handed_on}
use Rattle.runner.proofs.JudgeLaws.{FineList, list-fine}
use Rattle.runner.proofs.RunLaws.{kept_result, kept-wires, ran-result}
use Rattle.runner.proofs.run_sized.Goals as goal
use Rattle.runner.proofs.run_sized.Goals.{In_ok-judge_list}

-- the list that was given no fault
found : (c : In_ok-judge_list) → let a = c.args in FineList a.list.now.width a.list.now.words.now (length a.wires.now)
found c =
    let a = c.args in
    list-fine a.list.now.width a.list.now.words.now a.x a.y (length a.wires.now) (sym c.judge_list.ensures ∙ c.in_ok-judge_list.was)

pub judge_list-requires : goal.judge_list-requires
judge_list-requires c = let p = c.requires in (p.0, p.1)

pub returns-in_err-judge_list : goal.returns-in_err-judge_list
returns-in_err-judge_list c =
    let r = c.from_residual.result in
    let e = c.from_residual.ensures.1 in (
      handed_on r e (sym c.in_err-judge_list.was ∙ c.judge_list.ensures),
      kept_result _ _ _ _ _ (handed_on r e refl),
      kept-wires _ _ _ _ _ (handed_on r e refl),
    )

pub invariant_of-passed : goal.invariant_of-passed
invariant_of-passed c =
    let f = found (goal.at.invariant_of-passed c).In_ok-judge_list in
    let p = c.requires in
    record { passed = record { least = omega (arith, p.0); greatest = p.1; gates = f.gates; outputs = f.outputs } }

pub fill_wires-requires : goal.fill_wires-requires
fill_wires-requires c = (found (goal.at.fill_wires-requires c).In_ok-judge_list).byte_per_wire

pub fill_result-requires : goal.fill_result-requires
fill_result-requires c = (c.fill_wires.auto.wires ∙ (found (goal.at.fill_result-requires c).In_ok-judge_list).byte_per_wire, c.requires.2)

pub returns : goal.returns
returns c =
    let a = c.args in (
      sym c.in_ok-judge_list.was ∙ c.judge_list.ensures,
      ran-result a.list.now.width a.list.now.words.now a.x a.y a.res.now c.fill_wires.ensures c.fill_result.ensures,
      c.fill_wires.ensures,
    )
