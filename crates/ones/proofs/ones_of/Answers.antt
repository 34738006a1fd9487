-- `ones::ones_of` meets its contract.
use Rattle.std.proofs.Common.{refl, arith}
use Rattle.ones.proofs.RowLimbs.{bytes-none, bytes-more, bytes-all}
use Rattle.ones.proofs.ones_of.Goals as goal

pub loop-w-init : goal.loop-w-init
loop-w-init c = bytes-none _

pub loop-w-preserved : goal.loop-w-preserved
loop-w-preserved c = let l = c.loop-w in bytes-more _ l.w c.limb_of.ensures c.limb_ones-total.ensures l.invariant refl

pub returns : goal.returns
returns c = bytes-all _ c.loop-w.w c.loop-w.invariant (omega arith)
