-- The slots gathered: what stands below the width and what comes round.
-- And the exchange of two sums: what all rows add at the slots, gathered, is the sum of the rows spread.
use mathlib.Core.Path.{◌≡◌, sym, ap, ap₂, ◌∙◌}
use mathlib.Core.List.{List}
use Prim.Native.Nat.{ℕ, ◌+◌, ◌-◌, ◌*◌, ◌%◌, ◌<◌, ◌≤◌}
use native.Mathlib.Nat.{add-zero, zero-add, zero-mul, mul-add, mod-mod}
use native.Mathlib.Decide.{dec_lt}
use native.Mathlib.Omega.{arith}
use lib.ListN.{length}
use Rattle.gf2.specs.Sums.{sum}
use Rattle.gf2.specs.Coordinates.{coord}
use Rattle.gf2.specs.Operands.{carried_bytes, minus, choose}
use Rattle.gf2.proofs.Sums.{sum-ext, sum-plus, sum-clear, sum-swap, sum-mod}
use Rattle.gf2.proofs.Operands.{minus-below, minus-round, below_in, from-ext}
use Rattle.operand.specs.declared.Operand.{Operand}
use Rattle.limbs.specs.Limbs.{carried_limbs, reach, limb_coord, pack_limbs, raised}
use Rattle.limbs.proofs.LimbCoords.{limb-pack, length-limbs}
use Rattle.limbs.proofs.RaisedLimbs.{raised-in, raised-out}
use Rattle.limbs.proofs.Reach.{reach-most, reach-room}
use Rattle.scatter.specs.Cells.{twice_limbs, twice_reach, slots, HasSlots, has_slots, cell, slot_sum, total_at, spread_sum, seen_from}
use Rattle.scatter.proofs.CellLaws.{seen_at, slots-there}
use Rattle.scatter.proofs.MoveLaws.{raised-sum}
use Rattle.scatter.proofs.SpreadLaws.{twice-least, spread_row}
use Rattle.product.specs.Inner.{IsWidth, operand_of, made, gathered_at}
use Rattle.product.proofs.SoundOperands.{sum-parts}

-- the sum of all slots, below the width and from there on, as an operand
pub gathered-made : {m : ℕ} (g : List ℕ) → IsWidth m → HasSlots g → {all l h : List ℕ} (both : List ℕ) {r : Operand}
    → all ≡ pack_limbs twice_limbs (spread_sum m g) → l ≡ pack_limbs carried_limbs (seen_from m all 0) → h ≡ pack_limbs carried_limbs (seen_from m all m)
    → both ≡ pack_limbs carried_limbs (λ i. limb_coord l i + limb_coord h i) → r ≡ made m (limb_coord both) → r ≡ made m (gathered_at m g)
gathered-made {m} g width there {all} {l} {h} both ea el eh eb e =
    e ∙ ap (operand_of m) (from-ext carried_bytes m (limb_coord both) _ (λ i k.
    ap (λ z. limb_coord z i % 2) eb ∙ ap (λ y. y % 2) (limb-pack carried_limbs _ i (omega (arith, width.1))) ∙ mod-mod _ 2
    ∙ sum-parts _ _ (from 0 i (omega arith) k el ∙ ap (λ n. total_at g n % 2) (zero-add i)) (from m i (omega arith) k eh)))
  where
    from : (n i : ℕ) → n ≤ m → i < m → {x : List ℕ} → x ≡ pack_limbs carried_limbs (seen_from m all n) → limb_coord x i ≡ total_at g (n + i) % 2
    from n i q k p =
        let big = width.1 in
        let room = reach-room m (omega arith) in
        let most = reach-most m in
        let twice = twice-least m in
        let size : length all ≡ twice_limbs = ap length ea ∙ length-limbs twice_limbs (spread_sum m g) in
        ap (λ z. limb_coord z i) p ∙ limb-pack carried_limbs (seen_from m all n) i (omega arith)
        ∙ ap (λ y. y % 2) (seen_at m n all (omega arith) i (omega arith) ∙ ap (λ z. limb_coord z (n + i)) ea ∙ limb-pack twice_limbs (spread_sum m g) (n + i) (omega arith))
        ∙ mod-mod (spread_sum m g (n + i)) 2
        ∙ ap (λ y. y % 2) (below_in (64 * twice_reach m) (λ j. choose (has_slots g) (total_at g j) 0) (n + i) (omega arith) ∙ ap (λ b. choose b (total_at g (n + i)) 0) (slots-there g there))

-- coordinates moved up by s, of which those past m come round: one of the two parts has the coordinate that comes to place i, the other 0
raised-turned : (m s i : ℕ) (f : ℕ → ℕ) → ((j : ℕ) → m ≤ j → f j ≡ 0) → s < m → i < m → raised s f i + raised s f (m + i) ≡ f (minus m i s)
raised-turned m s i f clear h l =
    let up : raised s f (m + i) ≡ f (m + i - s) = raised-in s f (m + i) (omega arith) in
    elim (dec_lt i s) [
      | yes q ↦
          let e : m + i - s ≡ i + (m - s) = omega arith in
          ap₂ ◌+◌ (raised-out s f i q) up ∙ zero-add _ ∙ ap f (e ∙ sym (minus-round m i s q h))
      | no q ↦
          ap₂ ◌+◌ (raised-in s f i (omega arith)) (up ∙ clear (m + i - s) (omega arith)) ∙ add-zero _ ∙ ap f (sym (minus-below m i s (omega arith) l))
    ]

-- n rows that add e d at the slots of their ones
module _ (m n : ℕ) (line : ℕ → List ℕ) (e : ℕ → ℕ → ℕ) (g : List ℕ)
    (h : (r i : ℕ) → r < slots → i < 64 * twice_limbs → cell g r i ≡ sum n (λ d. slot_sum (reach m) (line d) (e d) r i) % 2) where
  -- slot by slot, row by row
  slot-raised : (r c : ℕ) → r < slots → c < 64 * twice_limbs → raised r (cell g r) c ≡ sum n (λ d. raised r (slot_sum (reach m) (line d) (e d) r) c) % 2
  slot-raised r c k l = elim (dec_lt c r) [
    | yes q ↦ raised-out r (cell g r) c q ∙ sym (ap (λ z. z % 2) (sym (raised-sum r n (λ d. slot_sum (reach m) (line d) (e d) r) c) ∙ raised-out r (λ j. sum n (λ d. slot_sum (reach m) (line d) (e d) r j)) c q))
    | no q ↦ raised-in r (cell g r) c (omega arith) ∙ h r (c - r) k (omega arith)
        ∙ ap (λ z. z % 2) (sym (raised-in r (λ j. sum n (λ d. slot_sum (reach m) (line d) (e d) r j)) c (omega arith)) ∙ raised-sum r n (λ d. slot_sum (reach m) (line d) (e d) r) c)
  ]

  total-rows : (c : ℕ) → c < 64 * twice_limbs → total_at g c % 2 ≡ sum n (λ d. sum (64 * reach m) (λ s. coord (line d) s * raised s (e d) c)) % 2
  total-rows c l =
      ap (λ z. z % 2) (sum-ext slots _ _ (λ r k. slot-raised r c k l)) ∙ sum-mod slots _
      ∙ ap (λ z. z % 2) (sum-swap slots n (λ r d. raised r (slot_sum (reach m) (line d) (e d) r) c) ∙ sum-ext n _ _ (λ d k. spread_row (reach m) (line d) (e d) c))

  -- gathered, they are n rows that spread e d
  pub gathered-rows : m < 64 * carried_limbs → ((d s : ℕ) → d < n → m ≤ s → coord (line d) s ≡ 0) → ((d j : ℕ) → m ≤ j → e d j ≡ 0)
      → (i : ℕ) → i < m → gathered_at m g i % 2 ≡ sum n (λ d. sum m (λ s. coord (line d) s * e d (minus m i s))) % 2
  gathered-rows fits short clear i l =
      parts (total_at g i) (total_at g (m + i)) _ _ (total-rows i (omega arith)) (total-rows (m + i) (omega arith)) ∙ ap (λ z. z % 2) (sym (sum-plus n _ _) ∙ sum-ext n _ _ both)
    where
      parts : (a b c d : ℕ) → a % 2 ≡ c % 2 → b % 2 ≡ d % 2 → (a + b) % 2 ≡ (c + d) % 2
      parts a b c d p q = omega arith

      both : (d : ℕ) → d < n → sum (64 * reach m) (λ s. coord (line d) s * raised s (e d) i) + sum (64 * reach m) (λ s. coord (line d) s * raised s (e d) (m + i))
          ≡ sum m (λ s. coord (line d) s * e d (minus m i s))
      both d k =
          let room = reach-room m fits in
          sym (sum-plus (64 * reach m) _ _)
          ∙ sum-clear m (64 * reach m) _ (omega arith) (λ s q. ap₂ (λ x y. x * raised s (e d) i + y * raised s (e d) (m + i)) (short d s k q) (short d s k q) ∙ ap₂ ◌+◌ (zero-mul _) (zero-mul _))
          ∙ sum-ext m _ _ (λ s q. sym (mul-add (coord (line d) s) _ _) ∙ ap (λ z. coord (line d) s * z) (raised-turned m s i (e d) (clear d) q l))
