-- `limbs::bytes::is_clear_carried` meets its contract.
use native.Mathlib.Nat.{mod-le}
use native.Mathlib.Omega.{arith}
use Rattle.limbs.proofs.LimbLoops.{ored-none, ored-more, clear-limbs}
use borrow.Author.Rules.{rules}
use Rattle.limbs.proofs.bytes.is_clear_carried.Goals as goal

pub loop-w-init : goal.loop-w-init
loop-w-init c = ored-none _

pub overflow_sub-high : goal.overflow_sub-high
overflow_sub-high c = rw c.low_limb.ensures (mod-le _ _)

pub loop-w-preserved : goal.loop-w-preserved
loop-w-preserved c = rw c.low_limb.ensures (ored-more _ _ _ c.loop-w.invariant)

pub returns : goal.returns
returns c = clear-limbs _ c.args.x.now (search rules) c.to_limbs-all.ensures (omega arith) c.loop-w.invariant
