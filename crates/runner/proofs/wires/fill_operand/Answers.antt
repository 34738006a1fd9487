-- `runner::wires::fill_operand` meets its contract. The invariant: the first i coordinates are stored.
use mathlib.Core.Path.{◌≡◌, refl}
use native.Mathlib.Omega.{arith}
use Rattle.gf2.specs.Coordinates.{coord, tabulate}
use Rattle.netlist.proofs.StoreLaws.{stored_more}
use Rattle.runner.proofs.wires.fill_operand.Goals as goal

pub loop-i-init : goal.loop-i-init
unfolding tabulate
loop-i-init c = refl

pub bounds-wires-at : goal.bounds-wires-at
bounds-wires-at c = omega arith

pub loop-i-preserved : goal.loop-i-preserved
loop-i-preserved c =
    let a = c.args in
    let w = c.loop-i in
    rw w.invariant (stored_more a.wires.now a.at w.i (coord a.bytes.now) _ c.coordinate.ensures)

pub returns : goal.returns
returns c =
    let w = c.loop-i in
    let e : w.i ≡ c.args.width = omega arith in
    rw e at w.invariant
