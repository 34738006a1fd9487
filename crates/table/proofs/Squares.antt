-- The square of an operand, limb by limb: each limb is made of a limb of the operand and the last bit of the limb before it.
-- carry-first, carry-next: the limb before. square-bits: a limb of the square.
use mathlib.Core.Path.{◌≡◌, sym, ap, ◌∙◌}
use mathlib.Core.List.{List, [], ◌∷◌}
use Prim.Native.Nat.{ℕ, zero, suc, ◌+◌, ◌-◌, ◌*◌, ◌/◌, ◌%◌, ◌^◌, ◌<◌, ◌≤◌}
use native.Mathlib.Nat.{mod-eq_of_lt}
use native.Mathlib.Decide.{dec_lt}
use native.Mathlib.Omega.{arith}
use lib.ListN.{get_or}
use Rattle.gf2.specs.Coordinates.{coord, value}
use Rattle.gf2.specs.Operands.{minus}
use Rattle.gf2.proofs.Coordinates.{coord-lt, value-bit}
use Rattle.gf2.proofs.Operands.{minus-lt, minus-below, minus-round}
use Rattle.limbs.specs.Limbs.{carried_limbs, limb_coord, limbs_of}
use Rattle.limbs.proofs.LimbCoords.{limb-lt}
use Rattle.limbs.proofs.LimbLoops.{pair-low, pair-high}
use Rattle.table.proofs.Comparing.{limb-bit}

-- the last bit of the limb before limb w of the square; before the first comes the last coordinate
abbrev pub Carry : ℕ → List ℕ → ℕ → ℕ → Type 0
Carry m s w previous = w * 64 < m → previous / 2 ^ 63 % 2 ≡ coord s (minus m (w * 64) 1)

module _ (m : ℕ) (s : List ℕ) where
  round : 1 ≤ m → minus m 0 1 ≡ m - 1
  round h = elim (dec_lt 1 m) [
    | yes l ↦ omega (arith, minus-round m 0 1 (omega arith) l)
    | no l ↦ omega (arith, minus-lt m 0 1 (omega arith))
  ]

  pub carry-first : 1 ≤ m → {previous : ℕ} → previous ≡ coord s (m - 1) * 2 ^ 63 → Carry m s 0 previous
  carry-first h e q = omega (arith, e, coord-lt s (m - 1), ap (coord s) (round h))

  module _ (w : ℕ) (h : w < carried_limbs) {limb : ℕ} (e : limb ≡ get_or (limbs_of s) w 0) where
    pub carry-next : Carry m s (w + 1) limb
    carry-next q =
        let place : w * 64 + 63 ≡ (w + 1) * 64 - 1 = omega arith in
        limb-bit s w 63 h (omega arith) e ∙ ap (coord s) (place ∙ sym (minus-below m ((w + 1) * 64) 1 (omega arith) q))

    pub square-bits : (previous : ℕ) {y : ℕ} → Carry m s w previous → y ≡ value 64 (λ j. limb_coord (previous ∷ limb ∷ []) (63 + j))
        → (j : ℕ) → j < 64 → w * 64 + j < m → y / 2 ^ j % 2 ≡ coord s (minus m (w * 64 + j) 1)
    square-bits previous before q j l k = ap (λ z. z / 2 ^ j % 2) q ∙ value-bit 64 _ j l ∙ mod-eq_of_lt (limb-lt (previous ∷ limb ∷ []) (63 + j)) ∙ bit j l k
      where
        bit : (j : ℕ) → j < 64 → w * 64 + j < m → limb_coord (previous ∷ limb ∷ []) (63 + j) ≡ coord s (minus m (w * 64 + j) 1)
        bit zero l k =
            let place : w * 64 ≡ w * 64 + 0 = omega arith in
            pair-low previous limb 63 (omega arith) ∙ before (omega arith) ∙ ap (λ i. coord s (minus m i 1)) place
        bit (suc j) l k =
            let there : 63 + suc j - 64 ≡ j = omega arith in
            let place : w * 64 + j ≡ w * 64 + suc j - 1 = omega arith in
            pair-high previous limb (63 + suc j) (omega arith) (omega arith) ∙ ap (λ i. limb / 2 ^ i % 2) there ∙ limb-bit s w j h (omega arith) e
            ∙ ap (coord s) (place ∙ sym (minus-below m (w * 64 + suc j) 1 (omega arith) k))
