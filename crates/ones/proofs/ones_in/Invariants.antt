-- `ones::ones_in` meets its contract.
use Rattle.ones.proofs.RowLimbs.{OnesTo}
use Rattle.ones.proofs.ones_in.Given as goal

abbrev pub invariant-loop-limb : goal.invariant-loop-limb
invariant-loop-limb l = OnesTo l.x l.total l.limb-index
