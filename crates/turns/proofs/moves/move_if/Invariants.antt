-- `turns::moves::move_if` meets its contract.
use Rattle.gf2.specs.Operands.{choose}
use Rattle.gf2.proofs.Loops.{Filled}
use Rattle.limbs.specs.Limbs.{reach}
use Rattle.limbs.proofs.RaisedLimbs.{limb_of}
use Rattle.turns.specs.Moves.{moved}
use Rattle.turns.proofs.Turns.{is_up}
use Rattle.turns.proofs.moves.move_if.Given as goal

abbrev pub invariant-loop-w : goal.invariant-loop-w
invariant-loop-w g l = Filled (reach l.m) (λ v. choose l.c (moved (is_up g.row.UP) (reach l.m) l.n (limb_of l.x) v) (limb_of l.x v)) l.initial.out l.out l.w
