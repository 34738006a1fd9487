-- `operand::Operand::read` meets its contract.
use Rattle.std.specs.Prelude.{Ok}
use mathlib.Core.Path.{◌≡◌, sym, ap, ◌∙◌}
use mathlib.Core.List.{[], ◌∷◌}
use Rattle.judging.specs.Causes.{judged}
use Rattle.judging.specs.FaultTable.{bad_width, not_w, high_bit}
use Rattle.judging.proofs.CauseLaws.{fine, ends, follows, handed_on, answer-given, answer-refused}
use Rattle.judging.proofs.Passed.{is-width}
use Rattle.operand.specs.Causes.{bytes_causes}
use Rattle.operand.proofs.FaultFree.{carry}
use Rattle.operand.proofs.Operand.read.Goals as goal
use Rattle.operand.proofs.Operand.read.Goals.{After-judge_high}

-- the verdict of all causes
whole : (c : After-judge_high) → c.judge_high.result ≡ judged (bytes_causes c.args.width c.args.s.now)
whole c = follows (bad_width _ ∷ not_w _ _ ∷ []) (high_bit _ _ ∷ []) c.judge_sizes.ensures c.in_ok-judge_sizes.was c.judge_high.ensures

pub returns-in_err-judge_sizes : goal.returns-in_err-judge_sizes
returns-in_err-judge_sizes c =
    handed_on c.from_residual.result c.from_residual.ensures.1 (answer-refused _ (sym (ends (bad_width _ ∷ not_w _ _ ∷ []) (high_bit _ _ ∷ []) c.judge_sizes.ensures c.in_err-judge_sizes.was)))

pub returns-in_err-judge_high : goal.returns-in_err-judge_high
returns-in_err-judge_high c =
    handed_on c.from_residual-in_err-judge_high.result c.from_residual-in_err-judge_high.ensures.1 (answer-refused _ (sym (whole (goal.at.returns-in_err-judge_high c).After-judge_high) ∙ c.in_err-judge_high.was))

pub of-requires : goal.of-requires
of-requires c = (is-width _ (fine (bad_width _ ∷ not_w _ c.args.s.now ∷ []) (sym c.judge_sizes.ensures ∙ c.in_ok-judge_sizes.was)).0).greatest

pub returns : goal.returns
returns c = ap Ok (c.of.ensures ∙ ap (carry _) c.carried.ensures) ∙ answer-given _ (sym (whole (goal.at.returns c).After-judge_high) ∙ c.in_ok-judge_high.was)
