-- `turns::moves::moved` meets its contract.
use mathlib.Core.Path.{◌∙◌}
use native.Mathlib.Omega.{arith}
use Rattle.gf2.proofs.Loops.{filled_none}
use Rattle.turns.proofs.Turns.{is_up, limbs-more, limbs-ended, limbs-all, moved-bits}
use Rattle.turns.proofs.moves.moved.Goals as goal

pub loop-w-init : goal.loop-w-init
loop-w-init g c = filled_none _ _ _

pub returns-then-ends_at : goal.returns-then-ends_at
returns-then-ends_at g c =
    let a = c.args in
    limbs-ended a.m c.loop-w.invariant c.ends_at.ensures c.if-ends_at.true ∙ moved-bits a.m a.k a.x (is_up g.row.UP) c.move_limbs-whole.ensures

pub loop-w-preserved : goal.loop-w-preserved
loop-w-preserved g c = limbs-more _ c.loop-w.invariant (omega arith) c.ends_at.ensures c.if-ends_at.false c.moved_bits.ensures

pub returns : goal.returns
returns g c =
    let a = c.args in
    limbs-all a.m c.loop-w.invariant (omega arith) ∙ moved-bits a.m a.k a.x (is_up g.row.UP) c.move_limbs-whole.ensures
