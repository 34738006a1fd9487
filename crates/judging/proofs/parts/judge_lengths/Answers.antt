-- `judging::parts::judge_lengths` meets its contract.
use mathlib.Core.Path.{◌≡◌, sym, ◌∙◌}
use Rattle.std.specs.Prelude.{[], ◌∷◌, map, drop, get_or, ◌+◌}
use Rattle.std.proofs.lemmas.List.{at_drop_more, at_drop_all}
use Rattle.judging.specs.Causes.{judged}
use Rattle.judging.specs.FaultTable.{bad_length}
use Rattle.judging.proofs.CauseLaws.{ends, goes_on, handed_on}
use Rattle.judging.proofs.parts.judge_lengths.Goals as goal
use Rattle.judging.proofs.parts.judge_lengths.Goals.{After-judge_length}

-- the lengths from this one on
rest : (c : After-judge_length) →
    judged (map (λ n. bad_length n c.args.laid_down) c.args.given.now)
    ≡ judged (bad_length (get_or c.args.given.now c.loop-n.n-index 0) c.args.laid_down ∷ map (λ n. bad_length n c.args.laid_down) (drop (c.loop-n.n-index + 1) c.args.given.now))
rest c = c.loop-n.invariant ∙ at_drop_more (λ l. judged (map (λ n. bad_length n c.args.laid_down) l)) c.args.given.now c.loop-n.n-index 0 c.loop-n-test.true

pub returns-in_err-judge_length : goal.returns-in_err-judge_length
returns-in_err-judge_length c =
    let s = (goal.at.returns-in_err-judge_length c).After-judge_length in
    handed_on c.from_residual.result c.from_residual.ensures.1 (ends (bad_length _ _ ∷ []) (map (λ n. bad_length n _) _) c.judge_length.ensures c.in_err-judge_length.was ∙ sym (rest s))

pub loop-n-preserved : goal.loop-n-preserved
loop-n-preserved c =
    let s = (goal.at.loop-n-preserved c).After-judge_length in
    rest s ∙ goes_on (bad_length _ _ ∷ []) (map (λ n. bad_length n _) _) (sym c.judge_length.ensures ∙ c.in_ok-judge_length.was)

pub returns : goal.returns
unfolding judged
returns c = sym (c.loop-n.invariant ∙ at_drop_all (λ l. judged (map (λ n. bad_length n c.args.laid_down) l)) c.args.given.now c.loop-n.n-index c.loop-n-test.false)
