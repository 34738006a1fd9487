-- `scatter::slots::add_limbs` meets its contract.
use mathlib.Core.Path.{◌≡◌}
use lib.ListN.{length}
use Rattle.scatter.specs.Cells.{AddedAfter, limbs_add}
use Rattle.scatter.proofs.slots.add_limbs.Given as goal

abbrev pub invariant-loop-q : goal.invariant-loop-q
invariant-loop-q g l = (length l.g ≡ length l.initial.g) × AddedAfter (limbs_add l.m l.e l.row g.row.FIRST) (limbs_add l.m l.e l.row l.q) l.initial.g l.g
