-- `turns::moves::move_if` meets its contract.
use mathlib.Core.Path.{◌∙◌}
use native.Mathlib.Omega.{arith}
use Rattle.gf2.proofs.Loops.{filled_none}
use Rattle.turns.proofs.Turns.{limbs-more, limbs-ended, limbs-all}
use Rattle.turns.proofs.moves.move_if.Goals as goal

pub loop-w-init : goal.loop-w-init
loop-w-init g c = filled_none _ _ _

pub returns-then-ends_at : goal.returns-then-ends_at
returns-then-ends_at g c = limbs-ended _ c.loop-w.invariant c.ends_at.ensures c.if-ends_at.true

pub loop-w-preserved : goal.loop-w-preserved
loop-w-preserved g c = limbs-more _ c.loop-w.invariant (omega arith) c.ends_at.ensures c.if-ends_at.false (c.pick.ensures ∙ rw c.moved_limb.ensures)

pub returns : goal.returns
returns g c = limbs-all c.args.m c.loop-w.invariant (omega arith)
