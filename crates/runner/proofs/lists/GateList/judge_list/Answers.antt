-- `runner::lists::GateList::judge_list` meets its contract.
use mathlib.Core.Path.{◌∙◌}
use mathlib.Core.List.{[], ◌∷◌}
use Rattle.judging.specs.FaultTable.{bad_width, high_bit}
use Rattle.judging.proofs.CauseLaws.{ends, follows, handed_on, head-fails}
use Rattle.judging.proofs.Passed.{width-passes}
use Rattle.runner.specs.Causes.{bad_gates}
use Rattle.runner.specs.Inner.{word_causes, bit_causes}
use Rattle.runner.proofs.lists.GateList.judge_list.Goals as goal

pub judge_wires-requires : goal.judge_wires-requires
judge_wires-requires c = c.requires.1

pub returns-in_err-judge_wires : goal.returns-in_err-judge_wires
returns-in_err-judge_wires c =
    let a = c.args in
    handed_on c.from_residual.result c.from_residual.ensures.1
    (ends (word_causes a.self.now.width a.self.now.words.now a.wires) (bit_causes a.self.now.width a.self.now.words.now a.x a.y) c.judge_wires.ensures c.in_err-judge_wires.was)

pub returns-in_err-judge_both_high_carried : goal.returns-in_err-judge_both_high_carried
returns-in_err-judge_both_high_carried c =
    let a = c.args in
    handed_on c.from_residual-in_err-judge_both_high_carried.result c.from_residual-in_err-judge_both_high_carried.ensures.1
    (follows (word_causes a.self.now.width a.self.now.words.now a.wires) (bit_causes a.self.now.width a.self.now.words.now a.x a.y) c.judge_wires.ensures c.in_ok-judge_wires.was
    (ends (high_bit a.self.now.width a.x ∷ high_bit a.self.now.width a.y ∷ []) (bad_gates a.self.now.width a.self.now.words.now ∷ []) c.judge_both_high_carried.ensures c.in_err-judge_both_high_carried.was))

pub returns : goal.returns
returns c =
    let a = c.args in
    let p = c.requires in
    follows (word_causes a.self.now.width a.self.now.words.now a.wires) (bit_causes a.self.now.width a.self.now.words.now a.x a.y) c.judge_wires.ensures c.in_ok-judge_wires.was
    (follows (high_bit a.self.now.width a.x ∷ high_bit a.self.now.width a.y ∷ []) (bad_gates a.self.now.width a.self.now.words.now ∷ []) c.judge_both_high_carried.ensures c.in_ok-judge_both_high_carried.was
    (c.judge_gates.ensures ∙ head-fails (bad_width a.self.now.width) (bad_gates a.self.now.width a.self.now.words.now ∷ []) (width-passes a.self.now.width (record { least = p.0; greatest = p.1 }))))
