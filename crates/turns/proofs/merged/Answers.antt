-- `turns::merged` meets its contract.
use mathlib.Core.Path.{sym, ◌∙◌}
use native.Mathlib.Omega.{arith}
use Rattle.gf2.proofs.Loops.{filled_none, filled_more, filled-all, filled-early}
use Rattle.limbs.specs.Limbs.{carried_limbs}
use Rattle.limbs.proofs.LimbLoops.{limbs-fit, low-none}
use Rattle.limbs.proofs.Reach.{ends-narrow}
use Rattle.turns.proofs.Turns.{merged-limbs}
use borrow.Author.Rules.{rules}
use Rattle.turns.proofs.merged.Goals as goal

pub loop-w-init : goal.loop-w-init
loop-w-init c = filled_none carried_limbs _ _

-- the width ends before this limb
pub returns-then-ends_at : goal.returns-then-ends_at
returns-then-ends_at c =
    let l = c.loop-w in
    let a = c.args in
    filled-early l.invariant (λ w h k. low-none _ a.m w (omega (arith, ends-narrow l.w a.m (sym c.ends_at.ensures ∙ c.if-ends_at.true))))
    ∙ merged-limbs carried_limbs _ _ _ (limbs-fit a.x (λ k. search rules)) (limbs-fit a.y (λ k. search rules))

pub loop-w-preserved : goal.loop-w-preserved
loop-w-preserved c = filled_more c.loop-w.invariant (omega arith) (omega arith) c.low_limb.ensures

pub returns : goal.returns
returns c = let a = c.args in filled-all c.loop-w.invariant (omega arith) (omega arith) ∙ merged-limbs carried_limbs _ _ _ (limbs-fit a.x (λ k. search rules)) (limbs-fit a.y (λ k. search rules))
