-- `runner::lists::GateList::are_outputs` meets its contract.
use mathlib.Core.Path.{ap, ◌∙◌}
use mathlib.Core.Bool.{Bool}
use Prim.Native.Nat.{ℕ, ◌+◌, ◌*◌}
use lib.Dec.{ltb}
use Rattle.std.proofs.Common.{rules, tests}
use Rattle.gf2.specs.Sums.{every}
use Rattle.netlist.specs.Running.{output_at}
use Rattle.netlist.specs.Judgements.{is_output}
use Rattle.netlist.proofs.Ranges.{every-from_all}
use Rattle.runner.proofs.lists.GateList.are_outputs.Goals as goal

pub returns : goal.returns
unfolding is_output
returns c =
    let l = c.args.self.now in
    let there : ℕ → ℕ → Bool = λ g r. ltb (output_at l.words.now r) (2 * l.width + g) in
    every-from_all (there c.gates.result) l.width _ _ _ c.all.ensures.ran (λ x b q k. search (rules, tests)) ∙ ap (λ g. every l.width (there g)) c.gates.ensures
