-- `limbs::limbs::put_limbs` meets its contract.
use mathlib.Core.Path.{refl, ◌∙◌}
use native.Mathlib.Omega.{arith}
use Rattle.limbs.proofs.LimbStores.{stored-none, stored-by, stored-limb}
use Rattle.limbs.proofs.limbs.put_limbs.Goals as goal

pub loop-w-init : goal.loop-w-init
loop-w-init c = (omega arith, refl, stored-none _ _ _)

pub shape_of-out-then-out-w : goal.shape_of-out-then-out-w
shape_of-out-then-out-w c = c.loop-w.invariant.1

pub returns-then-out-w : goal.returns-then-out-w
returns-then-out-w c = let i = c.loop-w.invariant in (i.1, stored-by i.2 _ _ (λ j p q. (omega (arith, c.if-out-w.true, i.1), q)))

pub loop-w-preserved : goal.loop-w-preserved
loop-w-preserved c =
    let p = c.put_whole in
    let l = c.loop-w in
    (omega arith, p.ensures.size ∙ l.invariant.1, stored-limb l.w l.invariant.2 p.ensures (omega (arith, c.if-out-w.false)))

pub shape_of-out : goal.shape_of-out
shape_of-out c = c.loop-w.invariant.1

pub returns : goal.returns
returns c = (c.loop-w.invariant.1, stored-by c.loop-w.invariant.2 _ _ (λ i p q. (omega arith, q)))
