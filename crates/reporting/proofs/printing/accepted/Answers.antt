use Rattle.std.proofs.Common.{ap, ◌∙◌}
use Rattle.reporting.specs.Text.{ascii}
use Rattle.reporting.specs.Report.{counts_line}
use Rattle.reporting.specs.Steps.{appended}
use Rattle.reporting.proofs.Reports.{accepted-put}
use Rattle.reporting.proofs.printing.accepted.Goals as goal

pub returns : goal.returns
returns c =
    let all = c.args.all in
    let plain = c.counts-first.ensures ∙ ap (λ t. appended t (counts_line (ascii "plain") all.plain)) c.append-verdict.ensures in
    let reduced = c.counts-second.ensures ∙ ap (λ t. appended t (counts_line (ascii "reduced") all.reduced)) plain in
    c.counts.ensures ∙ ap (λ t. appended t (counts_line (ascii "common") all.common)) reduced ∙ accepted-put all _
