-- `runner::lists::GateList::judge_words` meets its contract.
use mathlib.Core.Path.{◌≡◌, sym, ap, ◌∙◌}
use mathlib.Core.List.{[], ◌∷◌}
use Prim.Native.Nat.{◌+◌, ◌*◌}
use native.Mathlib.Omega.{arith}
use lib.ListN.{length, get_or}
use borrow.Author.Tests.{lt-ltb, le-ltb}
use Rattle.judging.specs.Causes.{judged}
use Rattle.judging.specs.FaultTable.{bad_length}
use Rattle.judging.proofs.CauseLaws.{fine, ends, follows, handed_on, head-holds, head-fails}
use Rattle.judging.proofs.Passed.{as-laid-down}
use Rattle.runner.specs.Causes.{few_words, other_width, bad_words}
use Rattle.runner.proofs.lists.GateList.judge_words.Goals as goal
use Rattle.runner.proofs.lists.GateList.judge_words.Goals.{After-judge_length}

-- the first word judged, and that there are two
first : (c : After-judge_length) → let a = c.args in c.judge_length.result ≡ judged (other_width a.self.now.width a.self.now.words.now ∷ [])
first c =
    let a = c.args in
    c.judge_length.ensures

pub returns-then-self-lt2 : goal.returns-then-self-lt2
returns-then-self-lt2 c =
    let a = c.args in
    sym (head-holds (few_words a.self.now.words.now) (other_width a.self.now.width a.self.now.words.now ∷ bad_words a.self.now.width a.self.now.words.now ∷ []) (lt-ltb (length a.self.now.words.now) 2 c.if-self-lt2.true))

pub returns-in_err-judge_length : goal.returns-in_err-judge_length
returns-in_err-judge_length c =
    let a = c.args in
    let m = a.self.now.width in
    let l = a.self.now.words.now in
    handed_on c.from_residual.result c.from_residual.ensures.1
    (ends (other_width m l ∷ []) (bad_words m l ∷ []) (first (goal.at.returns-in_err-judge_length c).After-judge_length) c.in_err-judge_length.was
    ∙ sym (head-fails (few_words l) (other_width m l ∷ bad_words m l ∷ []) (le-ltb (length l) 2 c.if-self-lt2.false)))

-- the width is a word
pub overflow_add-gates-2 : goal.overflow_add-gates-2
overflow_add-gates-2 c =
    let a = c.args in
    let same = as-laid-down (get_or a.self.now.words.now 0 0) a.self.now.width (fine (other_width a.self.now.width a.self.now.words.now ∷ []) (sym (first (goal.at.overflow_add-gates-2 c).After-judge_length) ∙ c.in_ok-judge_length.was)).0 in
    omega (arith, same)

pub returns : goal.returns
returns c =
    let a = c.args in
    let m = a.self.now.width in
    let l = a.self.now.words.now in
    follows (other_width m l ∷ []) (bad_words m l ∷ []) (first (goal.at.returns c).After-judge_length) c.in_ok-judge_length.was
    (c.judge_length-2.ensures ∙ ap (λ g. judged (bad_length (length l) (2 + 3 * g + m) ∷ [])) c.gates.ensures)
    ∙ sym (head-fails (few_words l) (other_width m l ∷ bad_words m l ∷ []) (le-ltb (length l) 2 c.if-self-lt2.false))
