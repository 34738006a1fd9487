use Rattle.reporting.specs.Report.{counts_line}
use Rattle.reporting.proofs.printing.counts.Goals as goal

pub returns : goal.returns
unfolding counts_line
returns c = c.append_pair.ensures
