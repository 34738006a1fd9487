-- `equivalence::judge::judge_gates` meets its contract.
use mathlib.Core.Path.{◌≡◌, sym, ◌∙◌}
use mathlib.Core.List.{[], ◌∷◌}
use native.Mathlib.Omega.{arith}
use Rattle.judging.specs.Causes.{judged}
use Rattle.judging.specs.FaultTable.{bad_width}
use Rattle.judging.proofs.CauseLaws.{ends, follows, handed_on, head-holds, head-fails, none-given}
use Rattle.judging.proofs.Passed.{width-passes}
use Rattle.runner.specs.Causes.{bad_gates}
use Rattle.equivalence.specs.Causes.{other_gates}
use Rattle.equivalence.proofs.judge.judge_gates.Goals as goal
use Rattle.equivalence.proofs.judge.judge_gates.Goals.{After-are_formed, After-judge_gates}

-- the verdict of the wires: the width has passed
wired : (c : After-judge_gates) → let a = c.args in c.judge_gates.result ≡ judged (bad_gates a.list.now.width a.list.now.words.now ∷ [])
wired c =
    let a = c.args in
    let p = c.requires in
    c.judge_gates.ensures ∙ head-fails (bad_width a.list.now.width) (bad_gates a.list.now.width a.list.now.words.now ∷ []) (width-passes a.list.now.width (record { least = p.0; greatest = omega (arith, p.1) }))

pub returns-in_err-judge_gates : goal.returns-in_err-judge_gates
returns-in_err-judge_gates c =
    let a = c.args in
    handed_on c.from_residual.result c.from_residual.ensures.1
    (ends (bad_gates a.list.now.width a.list.now.words.now ∷ []) (other_gates a.list.now.width a.list.now.words.now ∷ []) (wired (goal.at.returns-in_err-judge_gates c).After-judge_gates) c.in_err-judge_gates.was)

pub returns-then-are_formed : goal.returns-then-are_formed
returns-then-are_formed c =
    let a = c.args in
    follows (bad_gates a.list.now.width a.list.now.words.now ∷ []) (other_gates a.list.now.width a.list.now.words.now ∷ []) (wired (goal.at.returns-then-are_formed c).After-judge_gates) c.in_ok-judge_gates.was
    (sym (none-given (other_gates a.list.now.width a.list.now.words.now ∷ []) (rw (sym c.are_formed.ensures ∙ c.if-are_formed.true), tt)))

pub returns-else-are_formed : goal.returns-else-are_formed
returns-else-are_formed c =
    let a = c.args in
    follows (bad_gates a.list.now.width a.list.now.words.now ∷ []) (other_gates a.list.now.width a.list.now.words.now ∷ []) (wired (goal.at.returns-else-are_formed c).After-judge_gates) c.in_ok-judge_gates.was
    (sym (head-holds (other_gates a.list.now.width a.list.now.words.now) [] (rw (sym c.are_formed.ensures ∙ c.if-are_formed.false))))
