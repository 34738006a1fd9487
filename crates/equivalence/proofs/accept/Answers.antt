-- `equivalence::accept` meets its contract.
use mathlib.Core.Path.{sym, ap₂, ◌∙◌}
use Rattle.judging.proofs.CauseLaws.{handed_on, answer-given, answer-refused}
use Rattle.netlist.specs.Calls.{counted_as}
use Rattle.equivalence.proofs.GateLaws.{xors-left}
use Rattle.equivalence.proofs.accept.Goals as goal

pub returns-in_err-judge_all : goal.returns-in_err-judge_all
returns-in_err-judge_all c =
    handed_on c.from_residual.result c.from_residual.ensures.1 (answer-refused _ (sym c.judge_all.ensures ∙ c.in_err-judge_all.was))

pub returns : goal.returns
returns c =
    let a = c.args in
    let x = xors-left a.list.now a.width c.count_ands-n.result c.gates.result c.gates.ensures c.count_ands-n.ensures.0 in
    ap₂ counted_as x.0 x.1 ∙ answer-given _ (sym c.judge_all.ensures ∙ c.in_ok-judge_all.was)
