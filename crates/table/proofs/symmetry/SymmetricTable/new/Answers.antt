-- `table::symmetry::SymmetricTable::new` meets its contract.
use mathlib.Core.Path.{◌≡◌, refl, sym, ap₂, ◌∙◌}
use Rattle.std.specs.Prelude.{Ok}
use Rattle.judging.specs.Causes.{Verdict, judged}
use Rattle.judging.specs.FaultTable.{shape_causes, rule_causes}
use Rattle.judging.proofs.CauseLaws.{ends, follows, handed_on, verdict_err, verdict_ok}
use Rattle.table.specs.Judgements.{symmetry_verdict}
use Rattle.table.proofs.Theorems.{symmetry}
use Rattle.table.proofs.symmetry.SymmetricTable.new.Goals as goal
use Rattle.table.proofs.symmetry.SymmetricTable.new.Goals.{After-judge_rules}

-- the rules are judged of the table that was handed in
rules : (c : After-judge_rules) → c.judge_rules.result ≡ judged (rule_causes c.args.width c.args.bytes.now)
rules c = let same = c.in_ok-table.ensures.same in c.judge_rules.ensures ∙ ap₂ (λ m t. judged (rule_causes m t)) same.0 same.1

-- where the shape has passed they decide
decided : (c : After-judge_rules) {r : Verdict} → r ≡ judged (rule_causes c.args.width c.args.bytes.now) → r ≡ symmetry_verdict c.args.width c.args.bytes.now
decided c h = follows (shape_causes c.args.width c.args.bytes.now) (rule_causes c.args.width c.args.bytes.now) refl (verdict_ok c.new.ensures.verdict c.in_ok-table.was) h

passed : (c : After-judge_rules) → c.judge_rules.result ≡ Ok tt → Ok tt ≡ symmetry_verdict c.args.width c.args.bytes.now
passed c e = decided c (sym e ∙ rules c)

pub returns-in_err-table : goal.returns-in_err-table
returns-in_err-table c =
    let a = c.args in
    rw (handed_on c.from_residual.result c.from_residual.ensures.1 refl) (record {
      verdict = ends (shape_causes a.width a.bytes.now) (rule_causes a.width a.bytes.now) refl (verdict_err c.new.ensures.verdict c.in_err-table.was);
      same = tt;
    })

pub returns-in_err-judge_rules : goal.returns-in_err-judge_rules
returns-in_err-judge_rules c =
    let r = c.from_residual-in_err-judge_rules in
    let s = (goal.at.returns-in_err-judge_rules c).After-judge_rules in
    rw (handed_on r.result r.ensures.1 refl) (record { verdict = decided s (sym c.in_err-judge_rules.was ∙ rules s); same = tt })

pub invariant_of-result : goal.invariant_of-result
invariant_of-result c =
    let same = c.in_ok-table.ensures.same in
    record { symmetric = rw (same.0, same.1) ((symmetry c.args.width c.args.bytes.now).0 (sym (passed (goal.at.invariant_of-result c).After-judge_rules c.in_ok-judge_rules.was))).1 }

pub returns : goal.returns
returns c = record { verdict = passed (goal.at.returns c).After-judge_rules c.in_ok-judge_rules.was; same = c.in_ok-table.ensures.same }
