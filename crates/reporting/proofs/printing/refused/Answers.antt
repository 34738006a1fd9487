use Rattle.std.proofs.Common.{[], ◌∷◌, ap, ◌∙◌}
use Rattle.judging.specs.declared.fault.FaultNumber.{FaultNumber}
use Rattle.reporting.specs.Text.{ascii, line}
use Rattle.reporting.specs.Steps.{appended}
use Rattle.reporting.specs.Report.{refusal}
use Rattle.reporting.proofs.printing.refused.Goals as goal

pub returns : goal.returns
unfolding refusal
returns c = c.append_line.ensures ∙ ap (λ (n : FaultNumber). appended c.args.text.bytes.items (line (ascii "refused") (n.0 ∷ []))) c.number.ensures
