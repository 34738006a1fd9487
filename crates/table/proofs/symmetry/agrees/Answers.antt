-- `table::symmetry::agrees` meets its contract.
use mathlib.Core.Path.{◌≡◌, sym, ◌∙◌}
use Prim.Native.Nat.{ℕ, ◌+◌, ◌*◌, ◌/◌, ◌%◌, ◌^◌, ◌<◌}
use native.Mathlib.Omega.{arith}
use Rattle.gf2.specs.Coordinates.{coord}
use Rattle.limbs.proofs.LimbCoords.{limb-digit}
use Rattle.limbs.proofs.Reach.{ends-narrow}
use Rattle.table.proofs.Comparing.{limb-bit, low-of-same, low-lt, whole-limb, agree-start, agree-all, agree-more, agree-not}
use Rattle.table.proofs.symmetry.agrees.Goals as goal
use Rattle.table.proofs.symmetry.agrees.Goals.{After-carried_limb}

-- the bits of a limb of the operand
bits : (c : After-carried_limb) → let l = c.loop-w in let a = c.args in
    (j : ℕ) → j < 64 → c.carried_limb.result / 2 ^ j % 2 ≡ coord a.s.now (l.w * 64 + j)
bits c j h = limb-bit _ _ j (omega arith) h c.carried_limb.ensures

pub loop-w-init : goal.loop-w-init
loop-w-init c = agree-start _ _ _

pub returns-then-ends_at : goal.returns-then-ends_at
returns-then-ends_at c =
    let narrow = ends-narrow _ _ (sym c.ends_at.ensures ∙ c.if-ends_at.true) in
    agree-all c.loop-w.invariant (omega arith)

pub returns-then-x-w : goal.returns-then-x-w
returns-then-x-w c =
    let small = c.requires.2.fits c.loop-w.w in
    let fits = c.carried_limb.type_inv in
    agree-not c.loop-w.invariant c.carried_limb.result (λ j h q. bits (goal.at.returns-then-x-w c).After-carried_limb j h) (low-lt _ _ _ small fits) (λ e. c.if-x-w.true (whole-limb _ _ _ small fits (λ j k h.
    sym (limb-digit c.args.x.now c.loop-w.w j h) ∙ c.requires.2.bits _ (omega arith) ∙ sym (bits (goal.at.returns-then-x-w c).After-carried_limb j h ∙ c.requires.1.clear _ (omega arith))) e))

pub loop-w-preserved : goal.loop-w-preserved
loop-w-preserved c =
    let l = c.loop-w in
    agree-more l.invariant c.carried_limb.result (λ j h q. bits (goal.at.loop-w-preserved c).After-carried_limb j h) (low-of-same _ c.if-x-w.false)

pub returns : goal.returns
returns c = agree-all c.loop-w.invariant (omega (arith, c.requires.0))
