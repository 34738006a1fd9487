-- `limbs::slices::slice_limbs` meets its contract.
use mathlib.Core.Path.{sym, ◌∙◌}
use Prim.Native.Nat.{◌*◌}
use native.Mathlib.Omega.{arith}
use lib.ListN.{length}
use Rattle.gf2.proofs.Loops.{filled_none, filled_more, filled-all, filled-early}
use Rattle.limbs.specs.Limbs.{carried_limbs, pack_limbs}
use Rattle.limbs.proofs.LimbCoords.{limb-none}
use Rattle.limbs.proofs.Reach.{after-narrow}
use Rattle.limbs.proofs.slices.slice_limbs.Goals as goal

pub loop-w-init : goal.loop-w-init
loop-w-init c = filled_none carried_limbs _ _

-- the bytes end before this limb
pub returns-then-is_after : goal.returns-then-is_after
unfolding pack_limbs
returns-then-is_after c =
    let l = c.loop-w in
    let s = c.args.s.now in
    filled-early l.invariant (λ w h k. sym (limb-none s (w * 64) (omega (arith, after-narrow l.w (length s) (sym c.is_after.ensures ∙ c.if-is_after.true)))))

pub loop-w-preserved : goal.loop-w-preserved
loop-w-preserved c = filled_more c.loop-w.invariant (omega arith) (omega arith) c.slice_limb.ensures

pub returns : goal.returns
returns c = unfold pack_limbs in filled-all c.loop-w.invariant (omega arith) (omega arith)
