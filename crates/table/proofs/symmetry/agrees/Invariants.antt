-- `table::symmetry::agrees` meets its contract.
use Rattle.gf2.specs.Coordinates.{coord}
use Rattle.table.proofs.Comparing.{AgreeTo}
use Rattle.table.proofs.symmetry.agrees.Given as goal

abbrev pub invariant-loop-w : goal.invariant-loop-w
invariant-loop-w l = AgreeTo l.m l.x (coord l.s) l.w
