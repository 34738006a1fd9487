-- `product::answers::inverse` meets its contract.
use Rattle.std.specs.Prelude.{Ok}
use mathlib.Core.Path.{sym, ap, ◌∙◌}
use Prim.Native.Nat.{ℕ}
use lib.ListN.{get_or}
use mir.Val.{Fits}
use mir.Syntax.{w8}
use Rattle.judging.proofs.CauseLaws.{handed_on, answer-given, answer-refused}
use Rattle.product.proofs.Judged.{HasCarriedBytes, unit-fine}
use borrow.Author.Rules.{rules}
use Rattle.product.proofs.answers.inverse.Goals as goal
use Rattle.product.proofs.answers.inverse.Goals.{Start}

-- a carried operand has its bytes
bytes : (s : Start) → HasCarriedBytes s.args.x
bytes s = let x : (k : ℕ) → Fits w8 (get_or s.args.x k 0) = λ k. search rules in (search rules, λ k. (x k).fits)

pub returns-in_err-judge_unit : goal.returns-in_err-judge_unit
returns-in_err-judge_unit c = handed_on c.from_residual.result c.from_residual.ensures.1 (answer-refused _ (sym c.judge_unit.ensures ∙ c.in_err-judge_unit.was))

pub inverted-requires : goal.inverted-requires
inverted-requires c =
    unit-fine c.requires _ _ (λ j. (c.shared_slice_known-1.given j).fits) (bytes (goal.at.inverted-requires c).Start) (sym c.judge_unit.ensures ∙ c.in_ok-judge_unit.was)

pub returns : goal.returns
returns c = ap Ok c.inverted.ensures ∙ answer-given _ (sym c.judge_unit.ensures ∙ c.in_ok-judge_unit.was)
