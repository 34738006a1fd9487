-- `scatter::slots::next_sum` meets its contract.
use mathlib.Core.Path.{◌≡◌}
use Prim.Native.Nat.{◌+◌}
use Rattle.gf2.proofs.Loops.{Filled}
use Rattle.limbs.specs.Limbs.{limb_coord, raised}
use Rattle.limbs.proofs.RaisedLimbs.{limb_of}
use Rattle.scatter.specs.Cells.{twice_reach, cell}
use Rattle.limbs.proofs.LimbLoops.{limb_for}
use Rattle.scatter.proofs.slots.next_sum.Given as goal

abbrev pub invariant-loop-w : goal.invariant-loop-w
invariant-loop-w l =
    (l.previous ≡ raised 1 (limb_of l.x) l.w) × Filled (twice_reach l.m) (limb_for (λ i. raised 1 (limb_coord l.x) i + cell l.g l.r i)) l.initial.out l.out l.w
