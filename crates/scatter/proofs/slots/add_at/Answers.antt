-- `scatter::slots::add_at` meets its contract.
use mathlib.Core.Path.{sym, ◌∙◌}
use native.Mathlib.Omega.{arith}
use Rattle.limbs.proofs.Reach.{reach-most, ends-true, ends-false}
use Rattle.scatter.proofs.CellLaws.{slot-none, slot-more, slot-all}
use Rattle.scatter.proofs.slots.add_at.Goals as goal

pub loop-w-init : goal.loop-w-init
loop-w-init c = (omega arith, slot-none _ _ _ _)

pub shape_of-g-then-ends_at : goal.shape_of-g-then-ends_at
shape_of-g-then-ends_at c = c.loop-w.invariant.1.size

pub returns-then-ends_at : goal.returns-then-ends_at
returns-then-ends_at c =
    let l = c.loop-w in
    let m = c.args.m in
    slot-all _ _ _ m (ends-true l.w m (sym c.ends_at.ensures ∙ c.if-ends_at.true)) l.invariant.1

pub loop-w-preserved : goal.loop-w-preserved
loop-w-preserved c =
    let l = c.loop-w in
    let a = c.args in
    let h = ends-false l.w a.m l.invariant.0 (omega arith) (sym c.ends_at.ensures ∙ c.if-ends_at.false) in
    (omega (arith, h), slot-more a.r a.q a.e l.w _ l.invariant.1 c.requires.0 c.requires.1 (omega arith) (omega arith))

pub shape_of-g : goal.shape_of-g
shape_of-g c = c.loop-w.invariant.1.size

pub returns : goal.returns
returns c =
    let l = c.loop-w in
    let m = c.args.m in
    slot-all _ _ _ m (omega (arith, l.invariant.0, reach-most m)) l.invariant.1
