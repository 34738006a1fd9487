-- `scatter::slots::add_limb` meets its contract.
use Prim.Native.Nat.{◌^◌, ◌<◌}
use Rattle.scatter.specs.Cells.{Added, kept_from}
use Rattle.scatter.proofs.OnesLaws.{both_add}
use Rattle.scatter.proofs.slots.add_limb.Given as goal

abbrev pub invariant-loop-rest : goal.invariant-loop-rest
invariant-loop-rest l = (l.rest < 2 ^ 64) × Added (both_add l.limb l.rest (kept_from l.m l.q l.e)) l.initial.g l.g

abbrev pub decreases-loop-rest : goal.decreases-loop-rest
decreases-loop-rest l = l.rest
