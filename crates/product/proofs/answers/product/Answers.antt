-- `product::answers::product` meets its contract.
use Rattle.std.specs.Prelude.{Ok}
use mathlib.Core.Path.{sym, ap, ◌∙◌}
use Prim.Native.Nat.{ℕ}
use lib.ListN.{get_or}
use mir.Val.{Fits}
use mir.Syntax.{w8}
use Rattle.judging.proofs.CauseLaws.{handed_on, answer-given, answer-refused}
use Rattle.product.proofs.Judged.{HasCarriedBytes, factors-fine}
use borrow.Author.Rules.{rules}
use Rattle.product.proofs.answers.product.Goals as goal
use Rattle.product.proofs.answers.product.Goals.{Start}

-- carried operands have their bytes
bytes : (s : Start) → HasCarriedBytes s.args.x × HasCarriedBytes s.args.y
bytes s =
    let x : (k : ℕ) → Fits w8 (get_or s.args.x k 0) = λ k. search rules in
    let y : (k : ℕ) → Fits w8 (get_or s.args.y k 0) = λ k. search rules in
    ((search rules, λ k. (x k).fits), (search rules, λ k. (y k).fits))

pub returns-in_err-judge_factors : goal.returns-in_err-judge_factors
returns-in_err-judge_factors c = handed_on c.from_residual.result c.from_residual.ensures.1 (answer-refused _ (sym c.judge_factors.ensures ∙ c.in_err-judge_factors.was))

pub product_of-requires : goal.product_of-requires
product_of-requires c =
    let h = bytes (goal.at.product_of-requires c).Start in
    factors-fine c.requires _ c.args.method _ _ (λ j. (c.shared_slice_known-1.given j).fits) h.0 h.1 (sym c.judge_factors.ensures ∙ c.in_ok-judge_factors.was)

pub returns : goal.returns
returns c = ap Ok c.product_of.ensures ∙ answer-given _ (sym c.judge_factors.ensures ∙ c.in_ok-judge_factors.was)
