-- `equivalence::judge::judge_all` meets its contract.
use Rattle.std.specs.Prelude.{Ok}
use mathlib.Core.Path.{◌≡◌, refl, sym, ap, ◌∙◌}
use mathlib.Core.List.{List, ◌++◌}
use Prim.Native.Nat.{ℕ}
use borrow.Author.Tests.{ltb-false}
use Rattle.judging.specs.Causes.{Verdict, judged}
use Rattle.judging.proofs.CauseLaws.{Fine, fine, ends, follows, handed_on, verdict_err, verdict_ok}
use Rattle.judging.proofs.Passed.{is-width}
use Rattle.equivalence.specs.Causes.{most_width, size_causes, table_causes, limit_causes, gate_causes, output_causes}
use Rattle.equivalence.specs.Calls.{accept_verdict}
use Rattle.equivalence.proofs.AcceptLaws.{list-ready}
use Rattle.equivalence.proofs.judge.judge_all.Goals as goal
use Rattle.equivalence.proofs.judge.judge_all.Goals.{In_ok-judge_limits, In_ok-judge_gates}

-- what has passed
limits : (c : In_ok-judge_limits) → let l = c.args.list.now in Fine (limit_causes l.width l.words.now)
limits c = let l = c.args.list.now in fine (limit_causes l.width l.words.now) (sym c.judge_limits.ensures ∙ c.in_ok-judge_limits.was)

gates : (c : In_ok-judge_gates) → let l = c.args.list.now in Fine (gate_causes l.width l.words.now)
gates c = let l = c.args.list.now in fine (gate_causes l.width l.words.now) (sym c.judge_gates.ensures ∙ c.in_ok-judge_gates.was)

-- the rest decides where the table has passed, and where the limits have
module _ (m : ℕ) (t l : List ℕ) {r : Verdict} where
  after-table : judged (size_causes m t l ++ table_causes m t) ≡ Ok tt → r ≡ judged (limit_causes m l ++ (gate_causes m l ++ output_causes m t l)) → r ≡ accept_verdict m t l
  after-table e h = follows (size_causes m t l ++ table_causes m t) (limit_causes m l ++ (gate_causes m l ++ output_causes m t l)) refl e h

  after-limits : judged (limit_causes m l) ≡ Ok tt → r ≡ judged (gate_causes m l ++ output_causes m t l) → r ≡ judged (limit_causes m l ++ (gate_causes m l ++ output_causes m t l))
  after-limits e h = follows (limit_causes m l) (gate_causes m l ++ output_causes m t l) refl e h

pub returns-in_err-shaped : goal.returns-in_err-shaped
returns-in_err-shaped c =
    let m = c.args.list.now.width in
    let t = c.args.table.now in
    let l = c.args.list.now.words.now in
    handed_on c.from_residual.result c.from_residual.ensures.1
    (ends (size_causes m t l ++ table_causes m t) (limit_causes m l ++ (gate_causes m l ++ output_causes m t l)) refl (verdict_err c.judge_handed.ensures.verdict c.in_err-shaped.was))

pub returns-in_err-judge_limits : goal.returns-in_err-judge_limits
returns-in_err-judge_limits c =
    let m = c.args.list.now.width in
    let t = c.args.table.now in
    let l = c.args.list.now.words.now in
    handed_on c.from_residual-in_err-judge_limits.result c.from_residual-in_err-judge_limits.ensures.1
    (after-table m t l (verdict_ok c.judge_handed.ensures.verdict c.in_ok-shaped.was)
    (ends (limit_causes m l) (gate_causes m l ++ output_causes m t l) c.judge_limits.ensures c.in_err-judge_limits.was))

pub judge_gates-requires : goal.judge_gates-requires
judge_gates-requires c =
    let l = c.args.list.now in
    let p = fine (size_causes l.width c.args.table.now l.words.now ++ table_causes l.width c.args.table.now) (verdict_ok c.judge_handed.ensures.verdict c.in_ok-shaped.was) in
    ((is-width _ p.0).least, ltb-false most_width _ (limits (goal.at.judge_gates-requires c).In_ok-judge_limits).0)

pub returns-in_err-judge_gates : goal.returns-in_err-judge_gates
returns-in_err-judge_gates c =
    let m = c.args.list.now.width in
    let t = c.args.table.now in
    let l = c.args.list.now.words.now in
    handed_on c.from_residual-in_err-judge_gates.result c.from_residual-in_err-judge_gates.ensures.1
    (after-table m t l (verdict_ok c.judge_handed.ensures.verdict c.in_ok-shaped.was)
    (after-limits m t l (sym c.judge_limits.ensures ∙ c.in_ok-judge_limits.was)
    (ends (gate_causes m l) (output_causes m t l) c.judge_gates.ensures c.in_err-judge_gates.was)))

pub invariant_of-compared : goal.invariant_of-compared
invariant_of-compared c =
    let s = goal.at.invariant_of-compared c in
    let l = c.args.list.now in
    record {
      same = c.in_ok-shaped.ensures.same.0;
      ready = list-ready l.width l.words.now (limits s.In_ok-judge_limits) (gates s.In_ok-judge_gates);
    }

pub returns : goal.returns
returns c =
    let m = c.args.list.now.width in
    let t = c.args.table.now in
    let l = c.args.list.now.words.now in
    after-table m t l (verdict_ok c.judge_handed.ensures.verdict c.in_ok-shaped.was)
    (after-limits m t l (sym c.judge_limits.ensures ∙ c.in_ok-judge_limits.was)
    (follows (gate_causes m l) (output_causes m t l) c.judge_gates.ensures c.in_ok-judge_gates.was
    (c.judge_sets.ensures ∙ ap (λ t. judged (output_causes m t l)) c.in_ok-shaped.ensures.same.1)))
