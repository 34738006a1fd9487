-- `runner::lists::GateList::are_gates` meets its contract.
use mathlib.Core.Path.{ap, ◌∙◌}
use Rattle.std.proofs.Common.{rules, tests}
use Rattle.gf2.specs.Sums.{every}
use Rattle.netlist.specs.Judgements.{is_gate}
use Rattle.netlist.proofs.Ranges.{every-from_all}
use Rattle.runner.proofs.lists.GateList.are_gates.Goals as goal

pub returns : goal.returns
returns c =
    let l = c.args.self.now in
    every-from_all (is_gate l.width l.words.now) c.gates.result _ _ _ c.all.ensures.ran (λ x b q k. search (rules, tests))
    ∙ ap (λ g. every g (is_gate l.width l.words.now)) c.gates.ensures
