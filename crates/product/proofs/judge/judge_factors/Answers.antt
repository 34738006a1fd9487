-- `product::judge::judge_factors` meets its contract.
use mathlib.Core.Path.{refl, ap₂, ◌∙◌}
use mathlib.Core.List.{[], ◌∷◌}
use Rattle.judging.specs.FaultTable.{high_bit}
use Rattle.judging.proofs.CauseLaws.{ends, follows, handed_on, verdict_err, verdict_ok}
use Rattle.product.specs.Causes.{rules_by}
use Rattle.product.specs.Inner.{row_causes}
use Rattle.judging.specs.Causes.{judged}
use Rattle.product.proofs.Judged.{shape-after}
use Rattle.product.proofs.judge.judge_factors.Goals as goal

pub returns-in_err-shaped : goal.returns-in_err-shaped
returns-in_err-shaped c =
    handed_on c.from_residual.result c.from_residual.ensures.1
    (ends (row_causes _ _) (high_bit _ _ ∷ high_bit _ _ ∷ rules_by _ _ _) (shape-after c.requires c.args.table.now refl) (verdict_err c.new.ensures.verdict c.in_err-shaped.was))

pub returns-in_err-judge_both_high_carried : goal.returns-in_err-judge_both_high_carried
returns-in_err-judge_both_high_carried c =
    handed_on c.from_residual-in_err-judge_both_high_carried.result c.from_residual-in_err-judge_both_high_carried.ensures.1
    (follows (row_causes _ _) (high_bit _ _ ∷ high_bit _ _ ∷ rules_by _ _ _) (shape-after c.requires c.args.table.now refl) (verdict_ok c.new.ensures.verdict c.in_ok-shaped.was)
    (ends (high_bit _ _ ∷ high_bit _ _ ∷ []) (rules_by _ _ _) c.judge_both_high_carried.ensures c.in_err-judge_both_high_carried.was))

pub returns : goal.returns
returns c =
    let same = c.in_ok-shaped.ensures.same in
    follows (row_causes _ _) (high_bit _ _ ∷ high_bit _ _ ∷ rules_by _ _ _) (shape-after c.requires c.args.table.now refl) (verdict_ok c.new.ensures.verdict c.in_ok-shaped.was)
    (follows (high_bit _ _ ∷ high_bit _ _ ∷ []) (rules_by _ _ _) c.judge_both_high_carried.ensures c.in_ok-judge_both_high_carried.was
    (c.judge_rules.ensures ∙ ap₂ (λ m t. judged (rules_by c.args.method m t)) same.0 same.1))
