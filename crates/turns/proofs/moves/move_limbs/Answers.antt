-- `turns::moves::move_limbs` meets its contract.
use mathlib.Core.Path.{sym, ◌∙◌}
use native.Mathlib.Omega.{arith}
use Rattle.limbs.specs.Limbs.{reach}
use Rattle.limbs.proofs.Reach.{reach-most, ends-true}
use Rattle.turns.proofs.Turns.{is_up, moves, moved_none, moved_more, moved_all}
use Rattle.turns.proofs.moves.move_limbs.Goals as goal

pub loop-step-init : goal.loop-step-init
loop-step-init g c = let m = c.args.m in moved_none m (moves (is_up g.row.UP) (reach m))

pub returns-then-ends_at : goal.returns-then-ends_at
returns-then-ends_at g c =
    let m = c.args.m in
    moved_all m (moves (is_up g.row.UP) (reach m)) c.loop-step.invariant (omega (arith, ends-true c.loop-step.step m (sym c.ends_at.ensures ∙ c.if-ends_at.true))) c.requires

pub loop-step-preserved : goal.loop-step-preserved
loop-step-preserved g c = let m = c.args.m in moved_more m (moves (is_up g.row.UP) (reach m)) c.loop-step.invariant c.move_if-next.ensures

pub returns : goal.returns
returns g c = let m = c.args.m in moved_all m (moves (is_up g.row.UP) (reach m)) c.loop-step.invariant (omega (arith, reach-most m)) c.requires
