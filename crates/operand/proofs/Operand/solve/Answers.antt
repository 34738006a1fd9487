-- `operand::Operand::solve` meets its contract.
use Rattle.std.specs.Prelude.{Ok}
use mathlib.Core.Path.{◌≡◌, refl, sym, ap, ◌∙◌}
use mathlib.Core.List.{[], ◌∷◌}
use native.Mathlib.Omega.{arith}
use lib.ListN.{length}
use Rattle.gf2.specs.Operands.{carried_bytes}
use Rattle.judging.specs.Causes.{judged}
use Rattle.judging.specs.FaultTable.{bad_width, high_bit, trace_is_one}
use Rattle.judging.proofs.CauseLaws.{fine, ends, follows, handed_on, answer-given, answer-refused}
use Rattle.judging.proofs.Passed.{IsWidth, is-width}
use Rattle.operand.specs.Causes.{solve_causes}
use Rattle.operand.proofs.CallLaws.{trace-after, root-bytes}
use Rattle.operand.proofs.FaultFree.{carry}
use borrow.Author.Rules.{rules}
use Rattle.operand.proofs.Operand.solve.Goals as goal
use Rattle.operand.proofs.Operand.solve.Goals.{After-judge_solve}

-- a width that has passed, and the verdict of all causes
width : (c : After-judge_solve) → IsWidth c.args.self.width
width c = is-width _ (fine (bad_width c.args.self.width ∷ []) (sym (rw c.from-m.ensures at c.judge_width.ensures) ∙ c.in_ok-judge_width.was)).0

whole : (c : After-judge_solve) → c.judge_solve.result ≡ judged (solve_causes c.args.self)
whole c =
    let size : length c.args.self.bytes ≡ carried_bytes = search rules in
    follows (bad_width _ ∷ []) (high_bit _ _ ∷ trace_is_one _ _ ∷ []) (rw c.from-m.ensures at c.judge_width.ensures) c.in_ok-judge_width.was
    (rw c.from-m.ensures at c.judge_solve.ensures ∙ trace-after _ _ _ (omega (arith, (width c).greatest, size)))

pub returns-in_err-judge_width : goal.returns-in_err-judge_width
returns-in_err-judge_width c =
    handed_on c.from_residual.result c.from_residual.ensures.1
    (answer-refused _ (sym (ends (bad_width _ ∷ []) (high_bit _ _ ∷ trace_is_one _ _ ∷ []) (rw c.from-m.ensures at c.judge_width.ensures) c.in_err-judge_width.was)))

pub returns-in_err-judge_solve : goal.returns-in_err-judge_solve
returns-in_err-judge_solve c =
    handed_on c.from_residual-in_err-judge_solve.result c.from_residual-in_err-judge_solve.ensures.1 (answer-refused _ (sym (whole (goal.at.returns-in_err-judge_solve c).After-judge_solve) ∙ c.in_err-judge_solve.was))

pub of-requires : goal.of-requires
of-requires c = rw c.from-m.ensures (width (goal.at.of-requires c).After-judge_solve).greatest

pub returns : goal.returns
returns c =
    let size : length c.args.self.bytes ≡ carried_bytes = search rules in
    ap Ok (rw c.from-m.ensures at (c.of.ensures ∙ ap (carry _) c.root.ensures) ∙ ap (carry _) (root-bytes _ _ size refl))
    ∙ answer-given _ (sym (whole (goal.at.returns c).After-judge_solve) ∙ c.in_ok-judge_solve.was)
