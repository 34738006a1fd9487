-- `scatter::slots::add_at` meets its contract.
use Prim.Native.Nat.{◌≤◌}
use Rattle.limbs.specs.Limbs.{reach}
use Rattle.scatter.specs.Cells.{Added}
use Rattle.scatter.proofs.CellLaws.{at_slot}
use Rattle.scatter.proofs.slots.add_at.Given as goal

abbrev pub invariant-loop-w : goal.invariant-loop-w
invariant-loop-w l = (l.w ≤ reach l.m) × Added (at_slot l.r l.q l.e l.w) l.initial.g l.g
