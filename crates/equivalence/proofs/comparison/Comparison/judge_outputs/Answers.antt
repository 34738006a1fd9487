-- `equivalence::comparison::Comparison::judge_outputs` meets its contract. The invariant: the outputs before r are right.
use mathlib.Core.Path.{sym, ap, ◌∙◌}
use mathlib.Core.Bool.{not}
use Rattle.judging.specs.Causes.{judged}
use Rattle.judging.proofs.Searches.{up_start, none_left, one_found, one-fails}
use Rattle.equivalence.specs.Causes.{wrong_output}
use Rattle.equivalence.proofs.comparison.Comparison.judge_outputs.Goals as goal

pub loop-r-init : goal.loop-r-init
loop-r-init c = ap judged (sym (up_start _ _))

pub returns-then-not-is_right : goal.returns-then-not-is_right
returns-then-not-is_right c =
    let l = c.loop-r in
    sym (l.invariant ∙ one_found (wrong_output _ _ _) _ l.r c.loop-r-test.true (ap not (sym c.is_right.ensures) ∙ (ap not c.if-not-is_right.true)))

pub loop-r-preserved : goal.loop-r-preserved
loop-r-preserved c =
    let l = c.loop-r in
    l.invariant ∙ one-fails (wrong_output _ _ _) _ l.r c.loop-r-test.true (ap not (sym c.is_right.ensures) ∙ (ap not c.if-not-is_right.false))

pub returns : goal.returns
returns c = sym (c.loop-r.invariant ∙ none_left _ _ _ c.loop-r-test.false)
