-- `table::triples::check` meets its contract.
use mathlib.Core.Path.{refl, ap₂, ◌∙◌}
use Rattle.judging.specs.FaultTable.{symmetry_causes, triple_causes}
use Rattle.judging.proofs.CauseLaws.{ends, follows, handed_on, verdict_err, verdict_ok}
use Rattle.table.specs.Judgements.{triple_verdict}
use Rattle.table.proofs.triples.check.Goals as goal

-- 1 to 5, then 6
pub returns-in_err-new : goal.returns-in_err-new
returns-in_err-new c =
    let a = c.args in
    handed_on c.from_residual.result c.from_residual.ensures.1
    (ends (symmetry_causes a.width a.table.now) (triple_causes a.width a.table.now) refl (verdict_err c.new.ensures.verdict c.in_err-new.was))

pub returns : goal.returns
returns c =
    let a = c.args in
    let same = c.in_ok-new.ensures.same in
    follows (symmetry_causes a.width a.table.now) (triple_causes a.width a.table.now) refl (verdict_ok c.new.ensures.verdict c.in_ok-new.was)
    (c.judge_triples.ensures ∙ ap₂ triple_verdict same.0 same.1)
