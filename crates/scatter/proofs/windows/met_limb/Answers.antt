-- `scatter::windows::met_limb` meets its contract.
use Rattle.scatter.proofs.CellLaws.{met-once, met-both}
use Rattle.scatter.proofs.windows.met_limb.Goals as goal

pub returns-then-once : goal.returns-then-once
returns-then-once c = met-once _ _ c.if-once.true c.ranges.x.fits c.seen_limb.ensures

pub returns : goal.returns
returns c = met-both _ _ c.if-once.false c.ranges.x.fits c.ranges.y.fits c.seen_limb.ensures c.seen_limb-2.ensures
