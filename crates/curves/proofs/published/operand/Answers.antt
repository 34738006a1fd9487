-- `curves::published::operand` meets its contract. The invariant: the first b bytes are made.
use mathlib.Core.Path.{ap}
use native.Mathlib.Omega.{arith}
use Rattle.gf2.specs.Coordinates.{pack}
use Rattle.gf2.specs.Operands.{carried_bytes}
use Rattle.gf2.proofs.Loops.{filled_none, filled_more, filled-all}
use Rattle.curves.specs.Published.{published_coord, published}
use Rattle.curves.proofs.published.operand.Goals as goal

pub loop-b-init : goal.loop-b-init
loop-b-init c = filled_none carried_bytes _ _

pub loop-b-preserved : goal.loop-b-preserved
loop-b-preserved c = filled_more c.loop-b.invariant (omega arith) (omega arith) c.byte.ensures

pub returns : goal.returns
unfolding published published_coord pack
returns c =
    let w = c.args.width in
    ap (λ x. record { bytes = x; width = w }) (rw c.from.ensures at (filled-all c.loop-b.invariant (omega arith) (omega arith)))
