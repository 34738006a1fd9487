-- `runner::lists::GateList::judge_gates` meets its contract.
use mathlib.Core.Path.{sym, ◌∙◌}
use mathlib.Core.List.{[], ◌∷◌}
use Rattle.judging.specs.FaultTable.{bad_width}
use Rattle.judging.proofs.CauseLaws.{fine, ends, follows, handed_on}
use Rattle.judging.proofs.Passed.{IsWidth, is-width}
use Rattle.runner.specs.Causes.{bad_gates}
use Rattle.runner.proofs.JudgeLaws.{gates-bad, outputs-bad, gates-good}
use Rattle.runner.proofs.lists.GateList.judge_gates.Goals as goal
use Rattle.runner.proofs.lists.GateList.judge_gates.Goals.{In_ok-judge_width}

-- where the width has passed
width : (c : In_ok-judge_width) → IsWidth c.args.self.now.width
width c = is-width _ (fine (bad_width c.args.self.now.width ∷ []) (sym c.judge_width.ensures ∙ c.in_ok-judge_width.was)).0

pub returns-in_err-judge_width : goal.returns-in_err-judge_width
returns-in_err-judge_width c =
    let a = c.args in
    handed_on c.from_residual.result c.from_residual.ensures.1
    (ends (bad_width a.self.now.width ∷ []) (bad_gates a.self.now.width a.self.now.words.now ∷ []) c.judge_width.ensures c.in_err-judge_width.was)

pub are_gates-requires : goal.are_gates-requires
are_gates-requires c = (width (goal.at.are_gates-requires c).In_ok-judge_width).greatest

pub returns-then-not-are_gates : goal.returns-then-not-are_gates
returns-then-not-are_gates c =
    let l = c.args.self.now in
    follows (bad_width l.width ∷ []) (bad_gates l.width l.words.now ∷ []) c.judge_width.ensures c.in_ok-judge_width.was
    (gates-bad l.width l.words.now (sym c.are_gates.ensures ∙ c.if-not-are_gates.true))

pub are_outputs-requires : goal.are_outputs-requires
are_outputs-requires c = (width (goal.at.are_outputs-requires c).In_ok-judge_width).greatest

pub returns-then-are_outputs : goal.returns-then-are_outputs
returns-then-are_outputs c =
    let l = c.args.self.now in
    follows (bad_width l.width ∷ []) (bad_gates l.width l.words.now ∷ []) c.judge_width.ensures c.in_ok-judge_width.was
    (gates-good l.width l.words.now (sym c.are_gates.ensures ∙ c.if-not-are_gates.false) (sym c.are_outputs.ensures ∙ c.if-are_outputs.true))

pub returns-else-are_outputs : goal.returns-else-are_outputs
returns-else-are_outputs c =
    let l = c.args.self.now in
    follows (bad_width l.width ∷ []) (bad_gates l.width l.words.now ∷ []) c.judge_width.ensures c.in_ok-judge_width.was
    (outputs-bad l.width l.words.now (sym c.are_outputs.ensures ∙ c.if-are_outputs.false))
