-- `table::first::is_square` meets its contract.
use Rattle.gf2.specs.Coordinates.{coord}
use Rattle.gf2.specs.Operands.{minus}
use Rattle.table.proofs.Comparing.{AgreeTo}
use Rattle.table.proofs.Squares.{Carry}
use Rattle.table.proofs.first.is_square.Given as goal

abbrev pub invariant-loop-w : goal.invariant-loop-w
invariant-loop-w l = Carry l.m l.s l.w l.previous × AgreeTo l.m l.x (λ i. coord l.s (minus l.m i 1)) l.w
