-- `turns::both_moves` meets its contract: the two moves, added, with the coordinates below m kept.
use native.Mathlib.Omega.{arith}
use Rattle.limbs.proofs.Reach.{reach-room}
use Rattle.turns.proofs.Turns.{both-limbs}
use Rattle.turns.proofs.both_moves.Goals as goal

pub moved-requires : goal.moved-requires
moved-requires c = omega (arith, reach-room c.args.m (omega arith))

pub moved-requires-2 : goal.moved-requires-2
moved-requires-2 c = omega (arith, reach-room c.args.m (omega arith))

pub returns : goal.returns
returns c = let a = c.args in both-limbs a.m a.k a.x (omega arith) c.moved.ensures c.moved-2.ensures c.merged.ensures
