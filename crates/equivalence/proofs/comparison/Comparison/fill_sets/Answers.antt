-- `equivalence::comparison::Comparison::fill_sets` meets its contract. The invariant: the squares before k are filled.
use mathlib.Core.Path.{◌≡◌}
use native.Mathlib.Omega.{arith}
use Rattle.netlist.specs.Running.{gate_count}
use Rattle.equivalence.proofs.comparison.Comparison.fill_sets.Goals as goal

pub loop-k-init : goal.loop-k-init
loop-k-init c = c.requires

pub fill_set-requires : goal.fill_set-requires
fill_set-requires c = (omega (arith, c.gates-k-end.ensures, c.loop-k-test.true), c.loop-k.invariant)

pub loop-k-preserved : goal.loop-k-preserved
loop-k-preserved c = c.fill_set.ensures

pub returns : goal.returns
returns c =
    let w = c.loop-k in
    let e : w.k ≡ gate_count c.args.self.now.list.words.now = omega (arith, c.gates-k-end.ensures) in
    rw e at w.invariant
