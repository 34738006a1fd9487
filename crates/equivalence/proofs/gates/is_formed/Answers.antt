-- `equivalence::gates::is_formed` meets its contract.
use mathlib.Core.Path.{ap, ap₂, ◌∙◌}
use Rattle.netlist.specs.Judgements.{is_in_form}
use Rattle.equivalence.proofs.gates.is_formed.Goals as goal

pub returns : goal.returns
returns c =
    let m = c.args.list.now.width in
    c.in_form.ensures ∙ ap (λ k. is_in_form m k c.left.result c.right.result) c.kind.ensures
    ∙ ap₂ (is_in_form m _) c.left.ensures c.right.ensures
