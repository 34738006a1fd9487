-- `scatter::slots::spread` meets its contract.
use Prim.Native.Nat.{◌-◌}
use native.Mathlib.Omega.{arith}
use Rattle.scatter.specs.Cells.{twice_limbs}
use Rattle.scatter.proofs.SpreadLaws.{twice_most, spread_none, spread-more, spread-all, spread-missing}
use Rattle.scatter.proofs.slots.spread.Goals as goal

pub returns-then-g-ne-ROOM : goal.returns-then-g-ne-ROOM
returns-then-g-ne-ROOM c = let a = c.args in spread-missing a.g.now twice_limbs a.m c.if-g-ne-ROOM.true

pub loop-r-init : goal.loop-r-init
loop-r-init c = let a = c.args in spread_none a.g.now twice_limbs a.m

pub loop-r-preserved : goal.loop-r-preserved
loop-r-preserved c = let l = c.loop-r in
    let a = c.args in
    spread-more a.g.now twice_limbs a.m (l.r - 1) (omega arith) (omega arith) (twice_most a.m) l.invariant c.next_sum-next.ensures

pub returns : goal.returns
returns c = let a = c.args in spread-all a.g.now twice_limbs a.m c.if-g-ne-ROOM.false (omega arith) c.loop-r.invariant
