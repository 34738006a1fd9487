use Rattle.std.proofs.Common.{sym, ap, ◌∙◌}
use Rattle.judging.specs.declared.fault.Fault.TheVariants.{Length}
use Rattle.reporting.specs.Report.{refusal}
use Rattle.reporting.specs.Steps.{appended}
use Rattle.reporting.proofs.Reports.{long-report, refused-report, table-read}
use Rattle.reporting.proofs.Lengths.{whole}
use Rattle.reporting.proofs.printing.drafted.Goals as goal

pub returns-then-card-gt-INPUT_LIMIT : goal.returns-then-card-gt-INPUT_LIMIT
returns-then-card-gt-INPUT_LIMIT c =
    let s = c.args.card.now in
    let text = c.refused.ensures ∙ ap (λ t. appended t (refusal Length)) c.empty.ensures in
    whole s (λ b. (c.type_inv.card b).fits) text (long-report s c.if-card-gt-INPUT_LIMIT.true)

pub front_report-requires : goal.front_report-requires
front_report-requires c =
    let e = c.read.ensures in
    (table-read c.args.card.now c.if-card-gt-INPUT_LIMIT.false (λ b. (c.type_inv.card b).fits) (sym c.in-Ok.is ∙ e.answer) e.table).in_front

pub returns-in-Ok : goal.returns-in-Ok
returns-in-Ok c =
    let s = c.args.card.now in
    let e = c.read.ensures in
    let read = table-read s c.if-card-gt-INPUT_LIMIT.false (λ b. (c.type_inv.card b).fits) (sym c.in-Ok.is ∙ e.answer) e.table in
    whole s (λ b. (c.type_inv.card b).fits) c.front_report.ensures read.reported

pub returns-in-Err : goal.returns-in-Err
returns-in-Err c =
    let s = c.args.card.now in
    let text = c.refused-in-Err.ensures ∙ ap (λ t. appended t (refusal c.in-Err.fault)) c.empty-in-Err.ensures in
    whole s (λ b. (c.type_inv.card b).fits) text (refused-report s c.if-card-gt-INPUT_LIMIT.false (sym c.in-Err.is ∙ c.read.ensures.answer))
