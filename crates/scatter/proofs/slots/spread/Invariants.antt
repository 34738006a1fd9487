-- `scatter::slots::spread` meets its contract.
use Rattle.scatter.specs.Cells.{twice_limbs}
use Rattle.scatter.proofs.SpreadLaws.{Summed}
use Rattle.scatter.proofs.slots.spread.Given as goal

abbrev pub invariant-loop-r : goal.invariant-loop-r
invariant-loop-r l = Summed l.g twice_limbs l.m l.r l.acc
