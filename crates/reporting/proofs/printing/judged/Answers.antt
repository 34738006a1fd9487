use Rattle.std.proofs.Common.{sym, ◌∙◌}
use Rattle.judging.proofs.CauseLaws.{handed_on}
use Rattle.reporting.proofs.Reports.{counts-refused, counts-given}
use Rattle.reporting.proofs.printing.judged.Goals as goal

pub returns-in_err-check : goal.returns-in_err-check
returns-in_err-check c =
    let a = c.args in
    handed_on c.from_residual.result c.from_residual.ensures.1 (counts-refused a.width a.table.now (sym c.check.ensures ∙ c.in_err-check.was))

pub returns : goal.returns
returns c = let a = c.args in c.all_counts.ensures ∙ counts-given a.width a.table.now (sym c.check.ensures ∙ c.in_ok-check.was)
