-- `turns::moves::moved` meets its contract.
use Rattle.gf2.proofs.Loops.{Filled}
use Rattle.limbs.specs.Limbs.{reach}
use Rattle.limbs.proofs.RaisedLimbs.{limb_of}
use Rattle.turns.specs.Moves.{pair_at}
use Rattle.turns.proofs.Turns.{is_up}
use Rattle.turns.proofs.moves.moved.Given as goal

abbrev pub invariant-loop-w : goal.invariant-loop-w
invariant-loop-w g l = Filled (reach l.m) (pair_at (is_up g.row.UP) l.k (limb_of l.whole)) l.initial.out l.out l.w
