-- `netlist::words::coordinate` meets its contract.
use mathlib.Core.Path.{refl, sym}
use native.Mathlib.Omega.{arith}
use Rattle.gf2.specs.Coordinates.{coord}
use Rattle.gf2.proofs.Coordinates.{coord-past}
use Rattle.netlist.proofs.words.coordinate.Goals as goal

pub returns-then-b-bytes : goal.returns-then-b-bytes
unfolding coord
returns-then-b-bytes c = refl

pub returns-else-b-bytes : goal.returns-else-b-bytes
returns-else-b-bytes c = sym (coord-past c.args.bytes.now c.args.i (omega arith))
