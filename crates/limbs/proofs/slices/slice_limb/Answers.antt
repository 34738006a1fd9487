-- `limbs::slices::slice_limb` meets its contract.
use mathlib.Core.Path.{refl, ap, ◌∙◌}
use Prim.Native.Nat.{◌+◌, ◌-◌, ◌*◌, ◌/◌, ◌^◌}
use native.Mathlib.Omega.{arith}
use lib.ListN.{length}
use Rattle.limbs.proofs.LimbCoords.{limb-from, limb-none, limb-last}
use Rattle.limbs.proofs.slices.slice_limb.Goals as goal

pub returns-then-w-n : goal.returns-then-w-n
returns-then-w-n c = c.eight.ensures ∙ limb-from _ c.args.w _ refl

pub returns-then-n-b : goal.returns-then-n-b
returns-then-n-b c = limb-none c.args.s.now _ (omega arith)

pub returns-then-n-lt8 : goal.returns-then-n-lt8
returns-then-n-lt8 c = c.few_bytes.ensures ∙ limb-from _ c.args.w 0 (omega arith)

pub returns : goal.returns
returns c = ap (λ v. v / 2 ^ (8 * (c.args.w * 8 + 8 - length c.args.s.now))) c.eight-2.ensures
    ∙ limb-last c.args.s.now (length c.args.s.now) c.args.w refl (omega arith) (omega arith)
