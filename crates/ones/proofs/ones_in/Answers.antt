-- `ones::ones_in` meets its contract.
use Rattle.std.proofs.Common.{arith}
use Rattle.ones.proofs.RowLimbs.{ones_none, ones-more, ones-all}
use Rattle.ones.proofs.ones_in.Goals as goal

pub loop-limb-init : goal.loop-limb-init
loop-limb-init c = ones_none _

pub overflow_add-total : goal.overflow_add-total
overflow_add-total c = omega (arith, (ones-more c.loop-limb.invariant (omega arith) c.limb_ones-total.ensures).few)

pub loop-limb-preserved : goal.loop-limb-preserved
loop-limb-preserved c = ones-more c.loop-limb.invariant (omega arith) c.limb_ones-total.ensures

pub returns : goal.returns
returns c = ones-all c.loop-limb.invariant (omega arith)
