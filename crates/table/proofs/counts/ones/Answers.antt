-- `table::counts::ones` meets its contract.
use mathlib.Core.Path.{ap₂, ◌∙◌}
use Rattle.gf2.specs.Tables.{ones_in}
use Rattle.judging.specs.Causes.{answered}
use Rattle.judging.proofs.CauseLaws.{handed_on, verdict_err, verdict_ok}
use Rattle.table.proofs.TableOnes.{ones_small}
use Rattle.table.proofs.counts.ones.Goals as goal

pub returns-in_err-table : goal.returns-in_err-table
unfolding answered
returns-in_err-table c = handed_on c.from_residual.result c.from_residual.ensures.1 (rw (verdict_err c.new.ensures.verdict c.in_err-table.was))

pub returns : goal.returns
unfolding answered
returns c =
    let t = c.in_ok-table.table in
    let same = c.in_ok-table.ensures.same in
    rw (c.ones_of.ensures ∙ ones_small t.width t.bytes.now t.shaped.greatest t.shaped.is_table ∙ ap₂ ones_in same.0 same.1, verdict_ok c.new.ensures.verdict c.in_ok-table.was)
