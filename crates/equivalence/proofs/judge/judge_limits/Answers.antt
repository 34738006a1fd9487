-- `equivalence::judge::judge_limits` meets its contract.
use mathlib.Core.Path.{sym, ◌∙◌}
use mathlib.Core.List.{[], ◌∷◌}
use native.Mathlib.Omega.{arith}
use borrow.Author.Tests.{lt-ltb, le-ltb}
use Rattle.judging.proofs.CauseLaws.{head-holds, head-fails, none-given}
use Rattle.netlist.specs.Running.{gate_count}
use Rattle.equivalence.specs.Causes.{most_width, most_gates, too_wide, too_many_gates, limit_causes}
use Rattle.equivalence.proofs.judge.judge_limits.Goals as goal

pub returns-then-list-gt-MOST_WIDTH : goal.returns-then-list-gt-MOST_WIDTH
returns-then-list-gt-MOST_WIDTH c =
    let a = c.args in
    sym (head-holds (too_wide a.list.now.width) (too_many_gates a.list.now.words.now ∷ []) (lt-ltb most_width a.list.now.width c.if-list-gt-MOST_WIDTH.true))

pub returns-then-gates-gt-MOST_GATES : goal.returns-then-gates-gt-MOST_GATES
returns-then-gates-gt-MOST_GATES c =
    let a = c.args in
    sym (head-fails (too_wide a.list.now.width) (too_many_gates a.list.now.words.now ∷ []) (le-ltb most_width a.list.now.width c.if-list-gt-MOST_WIDTH.false)
    ∙ head-holds (too_many_gates a.list.now.words.now) [] (lt-ltb most_gates (gate_count a.list.now.words.now) (omega (arith, c.if-gates-gt-MOST_GATES.true, c.gates.ensures))))

pub returns : goal.returns
returns c =
    let a = c.args in
    sym (none-given (limit_causes a.list.now.width a.list.now.words.now) (le-ltb most_width a.list.now.width c.if-list-gt-MOST_WIDTH.false, (le-ltb most_gates (gate_count a.list.now.words.now) (omega (arith, c.if-gates-gt-MOST_GATES.false, c.gates.ensures)), tt)))
