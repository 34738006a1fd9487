use Rattle.std.proofs.Common.{ap, ◌∙◌}
use Rattle.reporting.specs.Text.{text_of}
use Rattle.reporting.specs.Report.{report}
use Rattle.reporting.proofs.Texts.{text-fits}
use Rattle.reporting.proofs.printing.report.Goals as goal

pub returns : goal.returns
returns c =
    let e = c.finished.ensures ∙ ap text_of c.drafted.ensures in
    record { text = e; fits = text-fits (report c.args.card.now) e }
