-- The limbs of a product that a width is worked on in, and where a loop over them ends.
-- The sum of all slots, slot r moved up r, by Horner's rule: each step moves the sum up by one place and adds a slot.
-- What one row adds at all slots, as a sum over the row's coordinates.
use mathlib.Core.Path.{◌≡◌, refl, sym, ap, ap₂, ◌∙◌}
use mathlib.Core.Bool.{true, false, ◌&&◌, true≢false}
use mathlib.Core.List.{List}
use Prim.Native.Nat.{ℕ, ◌+◌, ◌-◌, ◌*◌, ◌%◌, ◌<◌, ◌≤◌}
use native.Mathlib.Nat.{add-zero, add_comm, zero-add, mul_comm, mod-mod}
use native.Mathlib.Decide.{dec_lt, ℕ_discrete}
use native.Mathlib.Omega.{arith}
use lib.ListN.{replicate}
use lib.Dec.{eqb, ltb}
use borrow.Author.Tests.{ltb-true, eqb-true, lt-ltb, le-ltb, eq-eqb}
use Rattle.gf2.specs.Sums.{sum}
use Rattle.gf2.specs.Coordinates.{coord}
use Rattle.gf2.specs.Operands.{choose, below}
use Rattle.gf2.proofs.Parity.{and_both}
use Rattle.gf2.proofs.Sums.{sum-ext, sum-zero, sum_one, sum-split, sum-swap, sum-digits}
use Rattle.gf2.proofs.Operands.{below_in}
use Rattle.limbs.specs.Limbs.{few, reach, limb_coord, pack_limbs, raised}
use Rattle.limbs.proofs.LimbCoords.{limb-pack, limbs-below}
use Rattle.limbs.proofs.Reach.{reach_few, reach-all}
use Rattle.limbs.proofs.RaisedLimbs.{raised-in, raised-out}
use Rattle.scatter.specs.Cells.{slots, twice_limbs, twice_reach, twice_ends_at, cell, HasSlots, spread_sum}
use Rattle.scatter.proofs.CellLaws.{slots-there, slots-missing, none_kept}
use Rattle.scatter.proofs.MoveLaws.{raised-twice, raised-sum, raised-times}

module _ (m : ℕ) where
  twice-few : m < 64 * few → twice_reach m ≡ 2 * few
  twice-few h = ap (λ b. choose b (2 * few) twice_limbs) (lt-ltb m (64 * few) h)

  twice-all : 64 * few ≤ m → twice_reach m ≡ twice_limbs
  twice-all h = ap (λ b. choose b (2 * few) twice_limbs) (le-ltb m (64 * few) h)

  pub twice_most : twice_reach m ≤ twice_limbs
  twice_most = elim (dec_lt m (64 * few)) [
    | yes h ↦ omega (arith, twice-few h)
    | no h ↦ omega (arith, twice-all (omega arith))
  ]

  -- they have room for the limbs of two operands
  pub twice-least : 2 * reach m ≤ twice_reach m
  twice-least = elim (dec_lt m (64 * few)) [
    | yes h ↦ omega (arith, reach_few m h, twice-few h)
    | no h ↦ omega (arith, reach-all m (omega arith), twice-all (omega arith))
  ]

  -- where a loop ends, and where it goes on
  pub twice-true : (w : ℕ) → twice_ends_at w m ≡ true → w ≡ twice_reach m
  unfolding twice_ends_at
  twice-true w e =
      let both = and_both (eqb w (2 * few)) (ltb m (64 * few)) e in
      eqb-true w (2 * few) both.0 ∙ sym (twice-few (ltb-true m (64 * few) both.1))

  pub twice-false : (w : ℕ) → w ≤ twice_reach m → w < twice_limbs → twice_ends_at w m ≡ false → w < twice_reach m
  unfolding twice_ends_at
  twice-false w h l e = elim (dec_lt m (64 * few)) [
    | yes q ↦ elim (ℕ_discrete w (2 * few)) [
      | yes p ↦ absurd (true≢false (sym (ap (λ b. b && ltb m (64 * few)) (eq-eqb w (2 * few) p) ∙ lt-ltb m (64 * few) q) ∙ e))
      | no p ↦ omega (arith, twice-few q)
    ]
    | no q ↦ omega (arith, twice-all (omega arith))
  ]

-- the slots from r on, moved up by r less than in the end
module _ (g : List ℕ) where
  abbrev pub slots_from : ℕ → ℕ → ℕ
  slots_from r i = sum (slots - r) (λ u. raised u (cell g (r + u)) i)

  slot_step : (r : ℕ) → r < slots → (i : ℕ) → raised 1 (slots_from (r + 1)) i + cell g r i ≡ slots_from r i
  slot_step r l i =
      let e : slots - r ≡ 1 + (slots - (r + 1)) = omega arith in
      ap (λ y. y + cell g r i) (raised-sum 1 (slots - (r + 1)) (λ u. raised u (cell g (r + 1 + u))) i
      ∙ sum-ext (slots - (r + 1)) _ _ (λ u h. raised-twice 1 u (cell g (r + 1 + u)) i ∙ ap (λ k. raised (1 + u) (cell g k) i) (place u)))
      ∙ add_comm _ _ ∙ sym (ap (λ n. sum n (λ u. raised u (cell g (r + u)) i)) e ∙ sum-split 1 (slots - (r + 1)) _
      ∙ ap (λ y. y + sum (slots - (r + 1)) (λ u. raised (1 + u) (cell g (r + (1 + u))) i)) (sum_one _ ∙ first))
    where
      place : (u : ℕ) → r + 1 + u ≡ r + (1 + u)
      place u = omega arith

      first : raised 0 (cell g (r + 0)) i ≡ cell g r i
      first = raised-in 0 (cell g (r + 0)) i (omega arith) ∙ ap₂ (cell g) (add-zero r) (omega arith)

  module _ (n m : ℕ) where
    abbrev pub Summed : ℕ → List ℕ → Type 0
    Summed r x = x ≡ pack_limbs n (below (64 * twice_reach m) (slots_from r))

    pub spread_none : Summed slots (replicate n 0)
    spread_none = none_kept n (64 * twice_reach m) {b = false} (slots_from slots) refl ∙ limbs-below n (64 * twice_reach m) _ _ (λ i l. ap (λ y. y % 2) (sym (sum-zero _)))

    pub spread-more : (r : ℕ) {k : ℕ} {x y : List ℕ} → k ≡ r + 1 → r < slots → twice_reach m ≤ n → Summed k x
        → y ≡ pack_limbs n (below (64 * twice_reach m) (λ i. raised 1 (limb_coord x) i + cell g r i)) → Summed r y
    spread-more r {k} {x} e l fits p q = q ∙ limbs-below n (64 * twice_reach m) _ _ (λ i h. more _ _ (cell g r i) (up i h) ∙ ap (λ y. y % 2) (slot_step r l i))
      where
        more : (a b c : ℕ) → a % 2 ≡ b % 2 → (a + c) % 2 ≡ (b + c) % 2
        more a b c z = omega arith

        up : (i : ℕ) → i < 64 * twice_reach m → raised 1 (limb_coord x) i % 2 ≡ raised 1 (slots_from (r + 1)) i % 2
        up i h = elim (dec_lt i 1) [
          | yes b ↦ ap (λ y. y % 2) (raised-out 1 (limb_coord x) i b ∙ sym (raised-out 1 (slots_from (r + 1)) i b))
          | no b ↦
              ap (λ y. y % 2) (raised-in 1 (limb_coord x) i (omega arith) ∙ ap (λ z. limb_coord z (i - 1)) (p ∙ ap (λ s. pack_limbs n (below (64 * twice_reach m) (slots_from s))) e)
              ∙ limb-pack n (below (64 * twice_reach m) (slots_from (r + 1))) (i - 1) (omega arith))
              ∙ mod-mod _ 2 ∙ ap (λ y. y % 2) (below_in (64 * twice_reach m) (slots_from (r + 1)) (i - 1) (omega arith) ∙ sym (raised-in 1 (slots_from (r + 1)) i (omega arith)))
        ]

    pub spread-all : {r : ℕ} {x : List ℕ} → HasSlots g → r ≡ 0 → Summed r x → x ≡ pack_limbs n (spread_sum m g)
    spread-all there e p = p ∙ ap (λ k. pack_limbs n (below (64 * twice_reach m) (slots_from k))) e
        ∙ limbs-below n (64 * twice_reach m) _ _ (λ i l. ap (λ y. y % 2) (sum-ext slots _ _ (λ u h. ap (λ k. raised u (cell g k) i) (zero-add u))))
        ∙ ap (λ b. pack_limbs n (below (64 * twice_reach m) (λ i. choose b (sum slots (λ r. raised r (cell g r) i)) 0))) (sym (slots-there g there))

    pub spread-missing : (HasSlots g → ⊥) → replicate n 0 ≡ pack_limbs n (spread_sum m g)
    spread-missing h = none_kept n (64 * twice_reach m) _ (slots-missing g h)

-- a row that adds f from limb q on at slot r, for each of its coordinates q * 64 + r, adds f moved up by that coordinate
pub spread_row : (n : ℕ) (row : List ℕ) (f : ℕ → ℕ) (c : ℕ)
    → sum 64 (λ r. raised r (λ i. sum n (λ q. coord row (q * 64 + r) * raised (q * 64) f i)) c) ≡ sum (64 * n) (λ s. coord row s * raised s f c)
spread_row n row f c =
    sum-ext 64 _ _ (λ r h. raised-sum r n (λ q i. coord row (q * 64 + r) * raised (q * 64) f i) c
    ∙ sum-ext n _ _ (λ q l. raised-times r (coord row (q * 64 + r)) (raised (q * 64) f) c
    ∙ ap (λ y. coord row (q * 64 + r) * y) (raised-twice r (q * 64) f c ∙ ap (λ k. raised k f c) (add_comm r (q * 64)))))
    ∙ sum-swap 64 n (λ r q. coord row (q * 64 + r) * raised (q * 64 + r) f c)
    ∙ sym (ap (λ k. sum k (λ s. coord row s * raised s f c)) (mul_comm 64 n) ∙ sum-digits n 64 (λ s. coord row s * raised s f c))
