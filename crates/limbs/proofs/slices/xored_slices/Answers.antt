-- `limbs::slices::xored_slices` meets its contract.
use mathlib.Core.Path.{sym, ap₂, ◌∙◌}
use native.Mathlib.Omega.{arith}
use lib.Bits.{bit_xor}
use Rattle.gf2.proofs.Coordinates.{value-xor}
use Rattle.gf2.proofs.Loops.{filled_none, filled_more}
use Rattle.limbs.specs.Limbs.{carried_limbs}
use Rattle.limbs.proofs.Reach.{reach-most, ends-true, ends-false, kept-limbs}
use Rattle.limbs.proofs.slices.xored_slices.Goals as goal

pub loop-w-init : goal.loop-w-init
loop-w-init c = filled_none _ _ _

pub returns-then-ends_at : goal.returns-then-ends_at
returns-then-ends_at c =
    let l = c.loop-w in
    let a = c.args in
    let e = ends-true l.w a.m (sym c.ends_at.ensures ∙ c.if-ends_at.true) in
    kept-limbs carried_limbs _ _ l.invariant (omega (arith, e)) (reach-most a.m)

pub loop-w-preserved : goal.loop-w-preserved
loop-w-preserved c =
    let l = c.loop-w in
    let a = c.args in
    filled_more l.invariant (ends-false l.w a.m l.invariant.within (omega arith) (sym c.ends_at.ensures ∙ c.if-ends_at.false)) (omega (arith, reach-most a.m))
    (ap₂ bit_xor c.slice_limb.ensures c.slice_limb-in-loop-w.ensures ∙ value-xor 64 _ _)

pub returns : goal.returns
returns c =
    let l = c.loop-w in
    let a = c.args in
    kept-limbs carried_limbs _ _ l.invariant (omega (arith, reach-most a.m)) (reach-most a.m)
