-- `runner::wires::fill_operand` meets its contract. The invariant: the first i coordinates are stored.
use mathlib.Core.Path.{◌≡◌}
use lib.Seq.{sets}
use Rattle.gf2.specs.Coordinates.{coord, tabulate}
use Rattle.runner.proofs.wires.fill_operand.Given as goal

abbrev pub invariant-loop-i : goal.invariant-loop-i
invariant-loop-i l = l.wires ≡ sets l.initial.wires l.at (tabulate l.i (coord l.bytes))
