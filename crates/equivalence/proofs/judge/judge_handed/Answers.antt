-- `equivalence::judge::judge_handed` meets its contract.
use mathlib.Core.Path.{◌≡◌, refl, sym, ◌∙◌}
use mathlib.Core.List.{◌∷◌, ◌++◌}
use Rattle.judging.specs.Causes.{Verdict, judged}
use Rattle.judging.specs.FaultTable.{bad_width, not_table}
use Rattle.judging.proofs.CauseLaws.{fine, ends, follows, head-fails, handed_on, verdict_err, verdict_ok}
use Rattle.table.specs.Judgements.{symmetry_verdict}
use Rattle.equivalence.specs.Causes.{size_causes, table_causes}
use Rattle.equivalence.proofs.judge.judge_handed.Goals as goal
use Rattle.equivalence.proofs.judge.judge_handed.Goals.{In_ok-judge_sizes}

-- the width and the table's length have passed when the table is judged
decided : (c : In_ok-judge_sizes) {r : Verdict} → let m = c.args.list.now.width in let t = c.args.table.now in
    r ≡ symmetry_verdict m t → r ≡ judged (size_causes m t c.args.list.now.words.now ++ table_causes m t)
decided c h =
    let m = c.args.list.now.width in
    let t = c.args.table.now in
    let cs = size_causes m t c.args.list.now.words.now in
    let ds = table_causes m t in
    let p = fine cs (sym c.judge_sizes.ensures ∙ c.in_ok-judge_sizes.was) in
    follows cs ds c.judge_sizes.ensures c.in_ok-judge_sizes.was
    (h ∙ head-fails (bad_width m) (not_table m t ∷ ds) p.0 ∙ head-fails (not_table m t) ds p.1.0)

pub returns-in_err-judge_sizes : goal.returns-in_err-judge_sizes
returns-in_err-judge_sizes c =
    let l = c.args.list.now in
    let t = c.args.table.now in
    rw (handed_on c.from_residual.result c.from_residual.ensures.1 refl) (record {
      verdict = ends (size_causes l.width t l.words.now) (table_causes l.width t) c.judge_sizes.ensures c.in_err-judge_sizes.was;
      same = tt;
    })

pub returns-in_err-symmetric : goal.returns-in_err-symmetric
returns-in_err-symmetric c =
    let r = c.from_residual-in_err-symmetric in
    rw (handed_on r.result r.ensures.1 refl) (record {
      verdict = decided (goal.at.returns-in_err-symmetric c).In_ok-judge_sizes (sym (verdict_err c.new.ensures.verdict c.in_err-symmetric.was));
      same = tt;
    })

pub returns : goal.returns
returns c = record {
  verdict = decided (goal.at.returns c).In_ok-judge_sizes (sym (verdict_ok c.new.ensures.verdict c.in_ok-symmetric.was));
  same = rw c.table.ensures c.in_ok-symmetric.ensures.same;
}
