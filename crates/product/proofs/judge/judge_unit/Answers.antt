-- `product::judge::judge_unit` meets its contract.
use mathlib.Core.Path.{◌≡◌, refl, sym, ◌∙◌}
use mathlib.Core.Bool.{Bool}
use mathlib.Core.List.{[], ◌∷◌}
use Prim.Native.Nat.{ℕ}
use lib.ListN.{length, get_or}
use mir.Val.{Fits}
use mir.Syntax.{w8}
use Rattle.gf2.specs.Operands.{carried_bytes}
use Rattle.judging.specs.Causes.{Verdict, judged}
use Rattle.judging.specs.FaultTable.{high_bit, is_zero}
use Rattle.judging.proofs.CauseLaws.{head-holds, none-given, ends, follows, handed_on, verdict_err, verdict_ok}
use Rattle.product.specs.Inner.{row_causes, unit_causes}
use Rattle.product.proofs.Judged.{shape-after, clear_zero}
use borrow.Author.Rules.{rules}
use Rattle.product.proofs.judge.judge_unit.Goals as goal
use Rattle.product.proofs.judge.judge_unit.Goals.{After-is_clear_carried, After-judge_high_carried}

-- what the test of the bits says of zero
tested : (c : After-is_clear_carried) → let a = c.args in (b : Bool) → c.is_clear_carried.result ≡ b → (is_zero carried_bytes a.width a.x).test ≡ b
tested c b e =
    let a = c.args in
    let size : length a.x ≡ carried_bytes = search rules in
    let small : (k : ℕ) → Fits w8 (get_or a.x k 0) = λ k. search rules in
    sym (clear_zero a.width a.x size (λ k. (small k).fits)) ∙ sym c.is_clear_carried.ensures ∙ e

-- the verdict of all causes, where the table has passed
after : (c : After-judge_high_carried) → {v : Verdict} → let a = c.args in
    v ≡ judged (high_bit a.width a.x ∷ is_zero carried_bytes a.width a.x ∷ []) → v ≡ judged (unit_causes a.width a.table.now a.x)
after c = follows (row_causes _ _) (high_bit _ _ ∷ is_zero _ _ _ ∷ []) (shape-after c.requires c.args.table.now refl) (verdict_ok c.new.ensures.verdict c.in_ok-new.was)

pub returns-in_err-new : goal.returns-in_err-new
returns-in_err-new c =
    handed_on c.from_residual.result c.from_residual.ensures.1
    (ends (row_causes _ _) (high_bit _ _ ∷ is_zero _ _ _ ∷ []) (shape-after c.requires c.args.table.now refl) (verdict_err c.new.ensures.verdict c.in_err-new.was))

pub returns-in_err-judge_high_carried : goal.returns-in_err-judge_high_carried
returns-in_err-judge_high_carried c =
    handed_on c.from_residual-in_err-judge_high_carried.result c.from_residual-in_err-judge_high_carried.ensures.1
    (after (goal.at.returns-in_err-judge_high_carried c).After-judge_high_carried (ends (high_bit _ _ ∷ []) (is_zero _ _ _ ∷ []) c.judge_high_carried.ensures c.in_err-judge_high_carried.was))

pub returns-then-is_clear_carried : goal.returns-then-is_clear_carried
returns-then-is_clear_carried c =
    let s = goal.at.returns-then-is_clear_carried c in
    after s.After-judge_high_carried
    (follows (high_bit _ _ ∷ []) (is_zero _ _ _ ∷ []) c.judge_high_carried.ensures c.in_ok-judge_high_carried.was (sym (head-holds (is_zero _ _ _) [] (tested s.After-is_clear_carried _ c.if-is_clear_carried.true))))

pub returns : goal.returns
returns c =
    let s = goal.at.returns c in
    after s.After-judge_high_carried
    (follows (high_bit _ _ ∷ []) (is_zero _ _ _ ∷ []) c.judge_high_carried.ensures c.in_ok-judge_high_carried.was (sym (none-given (is_zero _ _ _ ∷ []) (tested s.After-is_clear_carried _ c.if-is_clear_carried.false, tt))))
