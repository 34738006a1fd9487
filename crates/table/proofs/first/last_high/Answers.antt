-- `table::first::last_high` meets its contract.
use native.Mathlib.Omega.{arith}
use Rattle.gf2.specs.Coordinates.{coord}
use Rattle.table.proofs.first.last_high.Goals as goal

pub returns : goal.returns
unfolding coord
returns c = omega arith
