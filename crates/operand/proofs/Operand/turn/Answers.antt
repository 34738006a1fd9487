-- `operand::Operand::turn` meets its contract.
use Rattle.std.specs.Prelude.{Ok}
use mathlib.Core.Path.{◌≡◌, refl, sym, ap, ◌∙◌}
use Rattle.judging.specs.Causes.{judged}
use Rattle.judging.proofs.CauseLaws.{fine, handed_on, answer-given, answer-refused}
use Rattle.judging.proofs.Passed.{is-width}
use Rattle.operand.specs.Causes.{operand_causes}
use Rattle.operand.proofs.CallLaws.{turn-made}
use Rattle.operand.proofs.FaultFree.{carry}
use borrow.Author.Rules.{rules}
use Rattle.operand.proofs.Operand.turn.Goals as goal
use Rattle.operand.proofs.Operand.turn.Goals.{In_ok-judge_operand}

none : (c : In_ok-judge_operand) → judged (operand_causes c.args.self) ≡ Ok tt
none c = sym c.judge_operand.ensures ∙ c.in_ok-judge_operand.was

pub returns-in_err-judge_operand : goal.returns-in_err-judge_operand
returns-in_err-judge_operand c = handed_on c.from_residual.result c.from_residual.ensures.1 (answer-refused _ (sym c.judge_operand.ensures ∙ c.in_err-judge_operand.was))

pub of-requires : goal.of-requires
of-requires c = rw c.from-m.ensures (is-width _ (fine (operand_causes c.args.self) (none (goal.at.of-requires c).In_ok-judge_operand)).0).greatest

pub returns : goal.returns
returns c =
    let a = c.args in
    let n = none (goal.at.returns c).In_ok-judge_operand in
    ap Ok (rw c.from-m.ensures at (c.of.ensures ∙ ap (carry _) c.rolled.ensures) ∙ ap (carry _) (turn-made a.self a.k (search rules) n refl)) ∙ answer-given _ n
