-- `netlist::counts::gate_counts` meets its contract.
use mathlib.Core.Path.{sym, ◌∙◌}
use Rattle.judging.proofs.CauseLaws.{handed_on, of-answer, fault-of_answer}
use Rattle.table.specs.Judgements.{symmetry_verdict}
use Rattle.netlist.specs.declared.Tallied.{Tallied}
use Rattle.netlist.proofs.counts.gate_counts.Goals as goal

pub returns-in_err-tally : goal.returns-in_err-tally
returns-in_err-tally c =
    let a = c.args in
    handed_on c.from_residual.result c.from_residual.ensures.1 (fault-of_answer (symmetry_verdict a.width a.table.now) _ _ (sym c.tally.ensures ∙ c.in_err-tally.was))

pub returns : goal.returns
returns c =
    let a = c.args in
    of-answer (λ (t : Tallied). t.counts) (symmetry_verdict a.width a.table.now) _ (sym c.tally.ensures ∙ c.in_ok-tally.was)
