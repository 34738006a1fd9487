-- `equivalence::sets::put_sum` meets its contract. The invariant: the first w limbs are summed.
use Rattle.equivalence.specs.Inner.{SumPut}
use Rattle.equivalence.proofs.sets.put_sum.Given as goal

abbrev pub invariant-loop-w : goal.invariant-loop-w
invariant-loop-w l = SumPut l.w l.k l.x l.y l.initial.sets l.sets
