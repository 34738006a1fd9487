-- `scatter::windows::window` meets its contract.
use mathlib.Core.Path.{sym, ◌∙◌}
use native.Mathlib.Omega.{arith}
use Rattle.gf2.proofs.Loops.{filled_none, filled_more}
use Rattle.limbs.specs.Limbs.{carried_limbs}
use Rattle.limbs.proofs.Reach.{kept-limbs, reach-most, ends-true, ends-false}
use Rattle.scatter.proofs.CellLaws.{too_short_lem, none_kept, seen_more, seen_all}
use Rattle.scatter.proofs.windows.window.Goals as goal

pub returns-then-x-first : goal.returns-then-x-first
returns-then-x-first c = let a = c.args in none_kept carried_limbs _ _ (too_short_lem a.at a.x.now c.if-x-first.true)

pub loop-w-init : goal.loop-w-init
loop-w-init c = filled_none _ _ _

pub returns-then-ends_at : goal.returns-then-ends_at
returns-then-ends_at c =
    let l = c.loop-w in
    let a = c.args in
    let e = ends-true l.w a.m (sym c.ends_at.ensures ∙ c.if-ends_at.true) in
    kept-limbs carried_limbs _ _ l.invariant (omega (arith, e)) (reach-most a.m) ∙ seen_all a.m a.at a.x.now carried_limbs (omega (arith, c.if-x-first.false))

pub loop-w-preserved : goal.loop-w-preserved
loop-w-preserved c =
    let l = c.loop-w in
    let a = c.args in
    filled_more l.invariant (ends-false l.w a.m l.invariant.within (omega arith) (sym c.ends_at.ensures ∙ c.if-ends_at.false)) (omega (arith, reach-most a.m))
    (c.seen_limb.ensures ∙ seen_more a.at a.x.now l.w)

pub returns : goal.returns
returns c =
    let l = c.loop-w in
    let a = c.args in
    kept-limbs carried_limbs _ _ l.invariant (omega (arith, reach-most a.m)) (reach-most a.m) ∙ seen_all a.m a.at a.x.now carried_limbs (omega (arith, c.if-x-first.false))
