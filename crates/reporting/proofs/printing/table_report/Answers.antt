use Rattle.std.proofs.Common.{[], ◌∷◌, ap, ◌∙◌, sym}
use Rattle.netlist.proofs.TableLaws.{ones-counted}
use Rattle.reporting.specs.Text.{ascii, line}
use Rattle.reporting.specs.Steps.{appended}
use Rattle.reporting.proofs.Reports.{head-put, table-put}
use Rattle.reporting.proofs.printing.table_report.Goals as goal

pub returns-in-Ok : goal.returns-in-Ok
returns-in-Ok c =
    let a = c.args in
    let start = c.append_line-first.ensures ∙ ap (λ t. appended t (line (ascii "width") (a.width ∷ []))) c.empty-start.ensures in
    let lines = head-put a.width a.table.now start c.append_line-head.ensures (ones-counted c.requires c.ones_of-ones.ensures) in
    c.accepted.ensures ∙ table-put a.width a.table.now lines (sym c.in-Ok.is ∙ c.judged.ensures)

pub returns-in-Err : goal.returns-in-Err
returns-in-Err c =
    let a = c.args in
    let start = c.append_line-first.ensures ∙ ap (λ t. appended t (line (ascii "width") (a.width ∷ []))) c.empty-start.ensures in
    let lines = head-put a.width a.table.now start c.append_line-head.ensures (ones-counted c.requires c.ones_of-ones.ensures) in
    c.refused.ensures ∙ table-put a.width a.table.now lines (sym c.in-Err.is ∙ c.judged.ensures)
