-- `operand::Operand::sum` meets its contract.
use Rattle.std.specs.Prelude.{Ok}
use mathlib.Core.Path.{◌≡◌, sym, ap, ◌∙◌}
use Rattle.judging.specs.Causes.{judged}
use Rattle.operand.specs.Causes.{pair_causes}
use Rattle.judging.proofs.CauseLaws.{fine, handed_on, answer-given, answer-refused}
use Rattle.judging.proofs.Passed.{is-width, as-laid-down, is-clear}
use Rattle.operand.proofs.CallLaws.{sum-bytes}
use Rattle.operand.proofs.FaultFree.{carry}
use borrow.Author.Rules.{rules}
use Rattle.operand.proofs.Operand.sum.Goals as goal
use Rattle.operand.proofs.Operand.sum.Goals.{In_ok-judge_pair}

none : (c : In_ok-judge_pair) → judged (pair_causes c.args.self c.args.other) ≡ Ok tt
none c = sym c.judge_pair.ensures ∙ c.in_ok-judge_pair.was

pub returns-in_err-judge_pair : goal.returns-in_err-judge_pair
returns-in_err-judge_pair c = handed_on c.from_residual.result c.from_residual.ensures.1 (answer-refused _ (sym c.judge_pair.ensures ∙ c.in_err-judge_pair.was))

pub of-requires : goal.of-requires
of-requires c = rw c.from-m.ensures (is-width _ (fine (pair_causes c.args.self c.args.other) (none (goal.at.of-requires c).In_ok-judge_pair)).0).greatest

pub returns : goal.returns
returns c =
    let a = c.args in
    let n = none (goal.at.returns c).In_ok-judge_pair in
    let p = fine (pair_causes a.self a.other) n in
    let w = as-laid-down a.other.width a.self.width p.1.1.0 in
    ap Ok (rw c.from-m.ensures at c.of.ensures ∙ ap (carry _) (c.xored.ensures
    ∙ sum-bytes _ a.self.bytes _ (search rules) (is-clear a.self.width a.self.bytes p.1.1.1.0) (rw w at (is-clear a.other.width a.other.bytes p.1.1.1.1.0))))
    ∙ answer-given _ n
