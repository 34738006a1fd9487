-- `turns::moves::move_limbs` meets its contract.
use Prim.Native.Nat.{◌-◌}
use Rattle.limbs.specs.Limbs.{carried_limbs, reach}
use Rattle.turns.specs.Moves.{moved}
use Rattle.turns.proofs.Turns.{is_up, Moved}
use Rattle.turns.proofs.moves.move_limbs.Given as goal

abbrev pub invariant-loop-step : goal.invariant-loop-step
invariant-loop-step g l = Moved (reach l.m) (moved (is_up g.row.UP) (reach l.m)) l.initial.out l.n l.out l.step

abbrev pub decreases-loop-step : goal.decreases-loop-step
decreases-loop-step g l = carried_limbs - l.step
