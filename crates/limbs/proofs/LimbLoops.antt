-- What the loops over whole limbs make, as coordinates.
-- Each law takes the list that a loop fills, limb by limb, to the limbs of given coordinates.
use mathlib.Core.Path.{◌≡◌, refl, sym, ap, ap₂, ◌∙◌}
use mathlib.Core.List.{List, [], ◌∷◌}
use Prim.Native.Nat.{ℕ, zero, suc, ◌+◌, ◌-◌, ◌*◌, ◌/◌, ◌%◌, ◌^◌, ◌<◌, ◌≤◌}
use native.Mathlib.Nat.{mul_assoc, mod-eq_of_lt, mod-lt, mod-le, zero-div, div-eq_of_lt, lt_of_le_of_lt, lt_of_lt_of_le}
use native.Mathlib.Decide.{dec_lt, ℕ_discrete}
use native.Mathlib.Numerals.{add-one}
use native.Mathlib.Omega.{arith}
use lib.Dec.{eqb}
use mir.Val.{Fits}
use mir.Syntax.{w64}
use lib.ListN.{length, get_or}
use lib.Bits.{bit_or, or_shr, or_add_and, and_le_l, and_le_r, or_zero_l, bit_xor, xor_lt, xor_comm}
use lib.Pow.{pow_pos, pow_mono, pow-add, shr-shr, shr_le}
use borrow.Author.Tests.{eq-eqb, eqb-true}
use Rattle.gf2.specs.Coordinates.{coord, value, tabulate}
use Rattle.gf2.specs.Operands.{carried_bytes, below, is_clear}
use Rattle.gf2.proofs.Remainders.{mul_mod_left}
use Rattle.gf2.proofs.Parity.{bool-ext}
use Rattle.gf2.proofs.Coordinates.{value-ext, value-eq, mod-bit, mod-bit-out, xor-bit, shl-bit, shl-bit-out}
use Rattle.gf2.proofs.Operands.{below_in, below_out, clear_at, clear_of}
use Rattle.limbs.specs.Limbs.{carried_limbs, limb_coord, pack_limbs}
use Rattle.limbs.proofs.LimbCoords.{limb-lt, limb-digit, limb-past, length-limbs, limbs-lt, limbs-of, limbs-coord}

-- every element of a list is a limb
abbrev pub Limbs : List ℕ → Type 0
Limbs l = (w : ℕ) → get_or l w 0 < 2 ^ 64

-- those of an array do
pub limbs-fit : (l : List ℕ) → ((w : ℕ) → Fits w64 (get_or l w 0)) → Limbs l
limbs-fit l h w = (h w).fits

-- the limb of the coordinates c at place w
abbrev pub limb_for : (ℕ → ℕ) → ℕ → ℕ
limb_for c w = value 64 (λ j. c (w * 64 + j))

pub limb-for : (c : ℕ → ℕ) (w : ℕ) (f : ℕ → ℕ) → ((j : ℕ) → j < 64 → f j ≡ c (w * 64 + j)) → value 64 f ≡ limb_for c w
limb-for c w f e = value-ext 64 f _ (λ j l. ap (λ y. y % 2) (e j l))

pub limb-value : (x : List ℕ) (w : ℕ) → get_or x w 0 < 2 ^ 64 → get_or x w 0 ≡ limb_for (limb_coord x) w
limb-value x w small = value-eq 64 _ _ small (λ j l. sym (limb-digit x w j l) ∙ sym (mod-eq_of_lt (limb-lt x _)))

pub xored-limbs : (n : ℕ) (x y : List ℕ) → Limbs x → Limbs y
    → tabulate n (λ w. bit_xor (get_or x w 0) (get_or y w 0)) ≡ pack_limbs n (λ i. limb_coord x i + limb_coord y i)
xored-limbs n x y sx sy = limbs-of n _ (λ i. limb_coord x i + limb_coord y i) (λ w h. xor_lt 64 (get_or x w 0) (get_or y w 0) (sx w) (sy w)) (λ w j h l.
    rw (limb-digit x w j l, limb-digit y w j l) (xor-bit (get_or x w 0) (get_or y w 0) j))

pub low-limbs : (n m : ℕ) (x : List ℕ) → Limbs x → tabulate n (λ w. get_or x w 0 % 2 ^ (m - w * 64)) ≡ pack_limbs n (below m (limb_coord x))
low-limbs n m x small = limbs-of n _ (below m (limb_coord x)) (λ w h. lt_of_le_of_lt (mod-le (get_or x w 0) (2 ^ (m - w * 64))) (small w)) (λ w j h l. elim (dec_lt (w * 64 + j) m) [
  | yes q ↦ rw (below_in m (limb_coord x) (w * 64 + j) q, limb-digit x w j l, mod-bit (get_or x w 0) (m - w * 64) j (omega arith)) (omega arith)
  | no q ↦ rw (below_out m (limb_coord x) (w * 64 + j) (omega arith), mod-bit-out (get_or x w 0) (m - w * 64) j (omega arith))
])

-- a limb at the width and above has none of its coordinates
pub low-none : (x m w : ℕ) → m ≤ w * 64 → x % 2 ^ (m - w * 64) ≡ 0
low-none x m w h = let e : m - w * 64 ≡ 0 = omega arith in rw e (omega arith)

-- the coordinates of two limbs in a row
pub pair-low : (low high i : ℕ) → i < 64 → limb_coord (low ∷ high ∷ []) i ≡ low / 2 ^ i % 2
pair-low low high i h = let e : i ≡ 0 * 64 + i = omega arith in ap (limb_coord (low ∷ high ∷ [])) e ∙ limb-digit (low ∷ high ∷ []) 0 i h

pub pair-high : (low high i : ℕ) → 64 ≤ i → i < 128 → limb_coord (low ∷ high ∷ []) i ≡ high / 2 ^ (i - 64) % 2
pair-high low high i h l = let e : i ≡ 1 * 64 + (i - 64) = omega arith in ap (limb_coord (low ∷ high ∷ [])) e ∙ limb-digit (low ∷ high ∷ []) 1 (i - 64) (omega arith)

-- in a list
pub pair-coord : (x : List ℕ) (w i : ℕ) → i < 128 → limb_coord (get_or x w 0 ∷ get_or x (w + 1) 0 ∷ []) i ≡ limb_coord x (w * 64 + i)
pair-coord x w i h = elim (dec_lt i 64) [
  | yes q ↦ pair-low _ _ i q ∙ sym (limb-digit x w i q)
  | no q ↦ let e : (w + 1) * 64 + (i - 64) ≡ w * 64 + i = omega arith in
      pair-high _ _ i (omega arith) h ∙ sym (limb-digit x (w + 1) (i - 64) (omega arith)) ∙ ap (limb_coord x) e
]

-- two limbs in a row, from bit t of the first on: at each bit one of the two shifted limbs is 0
pub pair-limb : (low high t : ℕ) → low < 2 ^ 64 → t ≤ 64 → bit_xor (low / 2 ^ t) (high * 2 ^ (64 - t) % 2 ^ 64) ≡ value 64 (λ j. limb_coord (low ∷ high ∷ []) (t + j))
pair-limb low high t hl ht = value-eq 64 _ _ (xor_lt 64 _ _ (lt_of_le_of_lt (shr_le low t) hl) (mod-lt _ (pow_pos 64))) (λ j l. xor-bit (low / 2 ^ t) up j ∙ elim (dec_lt (t + j) 64) [
  | yes q ↦ omega (arith, shl-bit-out high 64 (64 - t) j (omega arith) l, shr-shr low t j, pair-low low high (t + j) q)
  | no q ↦
      let none = div-eq_of_lt (lt_of_lt_of_le hl (pow_mono {i = 64} {j = t + j} (omega arith))) in
      let place : j - (64 - t) ≡ t + j - 64 = omega arith in
      let first = shr-shr low t j in
      omega (arith, first, none, shl-bit high 64 (64 - t) j (omega arith) l ∙ ap (λ k. high / 2 ^ k % 2) place, pair-high low high (t + j) (omega arith) (omega arith))
])
  where
    up : ℕ
    up = high * 2 ^ (64 - t) % 2 ^ 64

-- the same by shifts below 64, one of them made of two
pub lower-pair : (low high skip : ℕ) → low < 2 ^ 64 → skip < 64
    → bit_xor (low / 2 ^ skip) (high * 2 ^ 1 % 2 ^ 64 * 2 ^ (63 - skip) % 2 ^ 64) ≡ value 64 (λ j. limb_coord (low ∷ high ∷ []) (skip + j))
lower-pair low high skip hl hs =
    let e : 1 + (63 - skip) ≡ 64 - skip = omega arith in
    ap (bit_xor (low / 2 ^ skip)) (sym (mul_mod_left (high * 2 ^ 1) (2 ^ (63 - skip)) (2 ^ 64)) ∙ ap (λ x. x % 2 ^ 64) (mul_assoc high (2 ^ 1) (2 ^ (63 - skip)) ∙ ap (λ x. high * x) (sym (pow-add 2 1 (63 - skip)) ∙ ap (λ k. 2 ^ k) e)))
    ∙ pair-limb low high skip hl (omega arith)

pub raise-pair : (low high skip : ℕ) → low < 2 ^ 64 → skip < 64
    → bit_xor (high * 2 ^ skip % 2 ^ 64) (low / 2 ^ 1 / 2 ^ (63 - skip)) ≡ value 64 (λ j. limb_coord (low ∷ high ∷ []) (64 - skip + j))
raise-pair low high skip hl hs =
    let d : 1 + (63 - skip) ≡ 64 - skip = omega arith in
    let e : skip ≡ 64 - (64 - skip) = omega arith in
    xor_comm (high * 2 ^ skip % 2 ^ 64) _
    ∙ ap₂ (λ x k. bit_xor x (high * 2 ^ k % 2 ^ 64)) (shr-shr low 1 (63 - skip) ∙ ap (λ k. low / 2 ^ k) d) e
    ∙ pair-limb low high (64 - skip) hl (omega arith)

-- f 0 or f 1 or .. or f (n - 1), bit by bit
unfoldable pub ored : ℕ → (ℕ → ℕ) → ℕ
ored zero f = 0
ored (suc n) f = bit_or (ored n f) (f n)

pub ored-none : (f : ℕ → ℕ) → 0 ≡ ored 0 f
unfolding ored
ored-none f = refl

pub ored-more : (f : ℕ → ℕ) (w high : ℕ) → high ≡ ored w f → bit_or high (f w) ≡ ored (w + 1) f
unfolding ored
ored-more f w high e = rw (e, add-one)

pub ored-at : (n : ℕ) (f : ℕ → ℕ) → ored n f ≡ 0 → (i : ℕ) → i < n → f i ≡ 0
unfolding ored
ored-at zero f e i h = absurd (omega arith)
ored-at (suc n) f e i h =
    let s = or_add_and (ored n f) (f n) in
    let l = and_le_l (ored n f) (f n) in
    let r = and_le_r (ored n f) (f n) in
    elim (ℕ_discrete i n) [
      | yes q ↦ ap f q ∙ omega arith
      | no q ↦ ored-at n f (omega arith) i (omega arith)
    ]

pub ored-of : (n : ℕ) (f : ℕ → ℕ) → ((i : ℕ) → i < n → f i ≡ 0) → ored n f ≡ 0
unfolding ored
ored-of zero f e = refl
ored-of (suc n) f e = ap₂ bit_or (ored-of n f (λ i h. e i (omega arith))) (e n (omega arith)) ∙ or_zero_l 0

pub ored-shr : (n : ℕ) (f : ℕ → ℕ) (k : ℕ) → ored n f / 2 ^ k ≡ ored n (λ i. f i / 2 ^ k)
unfolding ored
ored-shr zero f k = zero-div (2 ^ k)
ored-shr (suc n) f k = or_shr (ored n f) (f n) k ∙ ap (λ x. bit_or x (f n / 2 ^ k)) (ored-shr n f k)

-- the coordinates of limbs at m and above, limb by limb
abbrev pub above : ℕ → List ℕ → ℕ → ℕ
above m x w = get_or x w 0 - get_or x w 0 % 2 ^ (m - w * 64)

module _ (m : ℕ) (x : List ℕ) (small : Limbs x) where
  above-none : (w j : ℕ) → above m x w ≡ 0 → j < 64 → m ≤ w * 64 + j → limb_coord x (w * 64 + j) ≡ 0
  above-none w j e l h =
      let same : get_or x w 0 ≡ get_or x w 0 % 2 ^ (m - w * 64) = omega (arith, mod-le (get_or x w 0) (2 ^ (m - w * 64))) in
      limb-digit x w j l ∙ ap (λ y. y / 2 ^ j % 2) same ∙ mod-bit-out (get_or x w 0) (m - w * 64) j (omega arith)

  none_above : (w : ℕ) → ((i : ℕ) → m ≤ i → limb_coord x i ≡ 0) → above m x w ≡ 0
  none_above w clear = omega (arith, whole ∙ sym part)
    where
      whole : get_or x w 0 ≡ value 64 (λ j. get_or x w 0 / 2 ^ j)
      whole = value-eq 64 _ _ (small w) (λ j l. refl)

      part : get_or x w 0 % 2 ^ (m - w * 64) ≡ value 64 (λ j. get_or x w 0 / 2 ^ j)
      part = value-eq 64 _ _ (lt_of_le_of_lt (mod-le (get_or x w 0) (2 ^ (m - w * 64))) (small w)) (λ j l. elim (dec_lt j (m - w * 64)) [
        | yes q ↦ mod-bit (get_or x w 0) (m - w * 64) j q
        | no q ↦ mod-bit-out (get_or x w 0) (m - w * 64) j (omega arith) ∙ sym (sym (limb-digit x w j l) ∙ clear (w * 64 + j) (omega arith))
      ])

-- the test of the bits at m and above
pub clear-limbs : (m : ℕ) (x : List ℕ) {l : List ℕ} {n high : ℕ} → length x ≡ carried_bytes → l ≡ pack_limbs carried_limbs (coord x) → n ≡ carried_limbs → high ≡ ored n (above m l) → eqb high 0 ≡ is_clear m x
clear-limbs m x size el en e = ap (λ h. eqb h 0) (e ∙ ap₂ (λ k l. ored k (above m l)) en el) ∙ bool-ext _ _
    (λ e. clear_of m x (λ i h. sym (limbs-coord x size i) ∙ none i h (ored-at carried_limbs _ (eqb-true _ 0 e))))
    (λ e. eq-eqb _ 0 (ored-of carried_limbs _ (λ w h. none_above m ws (limbs-lt carried_limbs (coord x)) w (λ i l. limbs-coord x size i ∙ clear_at m x e i l))))
  where
    ws : List ℕ
    ws = pack_limbs carried_limbs (coord x)

    none : (i : ℕ) → m ≤ i → ((w : ℕ) → w < carried_limbs → above m (pack_limbs carried_limbs (coord x)) w ≡ 0) → limb_coord (pack_limbs carried_limbs (coord x)) i ≡ 0
    none i h e = elim (dec_lt (i / 64) carried_limbs) [
      | yes q ↦ let d : i ≡ i / 64 * 64 + i % 64 = omega arith in
          ap (limb_coord ws) d ∙ above-none m ws (limbs-lt carried_limbs (coord x)) (i / 64) (i % 64) (e (i / 64) q) (omega arith) (omega arith)
      | no q ↦ limb-past ws i (omega (arith, length-limbs carried_limbs (coord x)))
    ]
