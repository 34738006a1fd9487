-- `gaussian::drawing::flip_row` meets its contract.
use mathlib.Core.Path.{◌≡◌}
use lib.ListN.{length}
use lib.Dec.{ltb}
use Rattle.gf2.specs.Operands.{choose}
use Rattle.gaussian.specs.Inner.{in_row, Adds}
use Rattle.gaussian.proofs.drawing.flip_row.Given as goal

abbrev pub invariant-loop-s : goal.invariant-loop-s
invariant-loop-s l = Adds l.m (in_row l.d (λ i. choose (ltb i l.s) 1 0)) l.initial.table l.table × (length l.table ≡ length l.initial.table)
