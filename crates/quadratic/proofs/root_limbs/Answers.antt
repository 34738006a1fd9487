-- `quadratic::root_limbs` meets its contract.
use mathlib.Core.Path.{refl, sym, ◌∙◌}
use native.Mathlib.Omega.{arith}
use Rattle.limbs.specs.Limbs.{carried_limbs}
use Rattle.limbs.proofs.Reach.{ends-narrow}
use Rattle.quadratic.proofs.QuadraticLimbs.{rooted_none, rooted-carry, rooted_more, rooted-all, rooted-early}
use Rattle.quadratic.proofs.root_limbs.Goals as goal

pub loop-w-init : goal.loop-w-init
loop-w-init c = rooted_none carried_limbs _ _ _

pub returns-then-ends_at : goal.returns-then-ends_at
returns-then-ends_at c = let l = c.loop-w in
    rooted-early l.invariant refl (omega (arith, ends-narrow l.w c.args.m (sym c.ends_at.ensures ∙ c.if-ends_at.true)))

pub prefix_sums-sums-requires : goal.prefix_sums-sums-requires
prefix_sums-sums-requires c = rooted-carry c.loop-w.invariant

pub loop-w-preserved : goal.loop-w-preserved
loop-w-preserved c = rooted_more c.loop-w.invariant c.prefix_sums-sums.ensures c.low_limb.ensures (omega arith) (omega arith)

pub returns : goal.returns
returns c = rooted-all c.loop-w.invariant (omega arith) (omega arith)
