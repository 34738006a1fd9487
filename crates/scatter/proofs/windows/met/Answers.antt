-- `scatter::windows::met` meets its contract.
use mathlib.Core.Path.{sym, ap, ap₂, ◌∙◌}
use mathlib.Core.Bool.{◌&&◌}
use native.Mathlib.Omega.{arith}
use Rattle.gf2.proofs.Loops.{filled_none, filled_more}
use Rattle.limbs.specs.Limbs.{carried_limbs}
use Rattle.limbs.proofs.Reach.{kept-limbs, reach-most, ends-true, ends-false}
use Rattle.scatter.specs.Cells.{is_long}
use Rattle.scatter.proofs.CellLaws.{long-enough, too_short_lem, none_kept, met-limb, met_all}
use Rattle.scatter.proofs.windows.met.Goals as goal

pub returns-then-xx-first : goal.returns-then-xx-first
returns-then-xx-first c =
    let a = c.args in
    none_kept carried_limbs _ _ (ap (λ b. b && is_long a.d a.yy.now) (too_short_lem a.d a.xx.now c.if-xx-first.true))

pub returns-then-yy-first : goal.returns-then-yy-first
returns-then-yy-first c =
    let a = c.args in
    none_kept carried_limbs _ _ (ap₂ ◌&&◌ (long-enough a.d a.xx.now (omega (arith, c.if-xx-first.false))) (too_short_lem a.d a.yy.now c.if-yy-first.true))

pub loop-w-init : goal.loop-w-init
loop-w-init c = filled_none _ _ _

pub returns-then-ends_at : goal.returns-then-ends_at
returns-then-ends_at c =
    let l = c.loop-w in
    let a = c.args in
    let e = ends-true l.w a.m (sym c.ends_at.ensures ∙ c.if-ends_at.true) in
    kept-limbs carried_limbs _ _ l.invariant (omega (arith, e)) (reach-most a.m)
    ∙ met_all a.once a.d a.x a.y a.xx.now a.yy.now carried_limbs a.m (omega (arith, c.if-xx-first.false)) (omega (arith, c.if-yy-first.false))

pub loop-w-preserved : goal.loop-w-preserved
loop-w-preserved c =
    let l = c.loop-w in
    let a = c.args in
    filled_more l.invariant (ends-false l.w a.m l.invariant.within (omega arith) (sym c.ends_at.ensures ∙ c.if-ends_at.false)) (omega (arith, reach-most a.m))
    (met-limb a.once a.d a.x a.y a.xx.now a.yy.now l.w c.met_limb.ensures)

pub returns : goal.returns
returns c =
    let l = c.loop-w in
    let a = c.args in
    kept-limbs carried_limbs _ _ l.invariant (omega (arith, reach-most a.m)) (reach-most a.m)
    ∙ met_all a.once a.d a.x a.y a.xx.now a.yy.now carried_limbs a.m (omega (arith, c.if-xx-first.false)) (omega (arith, c.if-yy-first.false))
