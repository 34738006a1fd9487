-- What the loops over slices make.
-- Plus: limbs to which the coordinates of a slice are added, a limb or a byte a turn.
-- Clear: the test of the bits at a width and above, byte by byte.
use mathlib.Core.Path.{◌≡◌, refl, sym, ap, ap₂, ◌∙◌}
use mathlib.Core.Bool.{Bool, true, false}
use mathlib.Core.List.{List}
use Prim.Native.Nat.{ℕ, ◌+◌, ◌-◌, ◌*◌, ◌/◌, ◌%◌, ◌^◌, ◌<◌, ◌≤◌}
use native.Mathlib.Nat.{zero-add, zero-div, div-one, mod-eq_of_lt, mod-lt, div-eq_of_lt, lt_of_lt_of_le}
use native.Mathlib.Decide.{dec_lt, ℕ_discrete}
use native.Mathlib.Omega.{arith}
use lib.Bits.{bit_xor, xor_lt}
use lib.Dec.{leb}
use lib.ListN.{length, get_or, set, length-set}
use lib.Pow.{pow_pos, pow_mono, shr-shr, shr_le}
use lib.Seq.{get_or-set_same, get_or-set_other}
use borrow.Author.Tests.{le-leb, lt-leb}
use Rattle.std.specs.Bool.{MatchBool}
use Rattle.std.specs.List.{between, AllWithin, HoldsAt}
use Rattle.std.proofs.lemmas.List.Edits.{get_or-between, length-between}
use Rattle.gf2.specs.Coordinates.{coord, value}
use Rattle.gf2.specs.Operands.{carried_bytes, choose, below, is_clear}
use Rattle.gf2.proofs.Coordinates.{value-lt, value-bit, value-eq, coord-lt, coord-past, coord-digit, xor-bit, shl-bit, shl-bit-out}
use Rattle.gf2.proofs.Operands.{below_in, below_out, clear_at, clear_of}
use Rattle.limbs.specs.Limbs.{carried_limbs, reach, limb_coord, pack_limbs}
use Rattle.limbs.proofs.LimbCoords.{limb-lt, limbs-eq}
use Rattle.limbs.proofs.LimbLoops.{Limbs}

-- limbs with the coordinates of x, to which those of f are added
pub record Plus (f : ℕ → ℕ) (x out : List ℕ) : Type 0 where
  pub size : length out ≡ carried_limbs
  pub small : Limbs out
  pub coords : (i : ℕ) → limb_coord out i ≡ (limb_coord x i + f i) % 2

pub plus_none : (f : ℕ → ℕ) {x : List ℕ} → length x ≡ carried_limbs → Limbs x → ((i : ℕ) → f i ≡ 0) → Plus f x x
plus_none f {x} size small none = record { size = size; small = small; coords = λ i. omega (arith, none i, limb-lt x i) }

plus-all : {f : ℕ → ℕ} (g : ℕ → ℕ) {x out : List ℕ} → Plus f x out → ((i : ℕ) → i < 64 * carried_limbs → f i ≡ g i) → out ≡ pack_limbs carried_limbs (λ i. limb_coord x i + g i)
plus-all g {x} done same = limbs-eq carried_limbs _ done.size done.small (λ i h. done.coords i ∙ ap (λ y. (limb_coord x i + y) % 2) (same i h))

-- one limb stored
plus-set : {f : ℕ → ℕ} (g : ℕ → ℕ) {x out : List ℕ} (p y : ℕ) → Plus f x out → p < carried_limbs → y < 2 ^ 64
    → ((i : ℕ) → i / 64 ≡ p → y / 2 ^ (i % 64) % 2 ≡ (limb_coord x i + g i) % 2) → ((i : ℕ) → (i / 64 ≡ p → ⊥) → f i ≡ g i) → Plus g x (set out p y)
unfolding limb_coord
plus-set g {x} {out} p y done h fits here other = record {
  size = length-set out p y ∙ done.size;
  small = λ w. elim (ℕ_discrete w p) [
    | yes e ↦ rw (e, get_or-set_same out p y 0 (omega (arith, done.size))) fits
    | no n ↦ rw (get_or-set_other out p w y 0 n) (done.small w)
  ];
  coords = λ i. elim (ℕ_discrete (i / 64) p) [
    | yes e ↦ ap (λ z. z / 2 ^ (i % 64) % 2) (ap (λ k. get_or (set out p y) k 0) e ∙ get_or-set_same out p y 0 (omega (arith, done.size))) ∙ here i e
    | no n ↦ ap (λ z. z / 2 ^ (i % 64) % 2) (get_or-set_other out p (i / 64) y 0 n) ∙ done.coords i ∙ ap (λ z. (limb_coord x i + z) % 2) (other i n)
  ];
}

-- the bits of limb p that are coordinates
limb-bit : (l : List ℕ) (p i : ℕ) → i / 64 ≡ p → get_or l p 0 / 2 ^ (i % 64) % 2 ≡ limb_coord l i
unfolding limb_coord
limb-bit l p i e = rw e

below-same : (m n : ℕ) (f : ℕ → ℕ) (i : ℕ) → m ≤ n → (i < n → i < m) → below m f i ≡ below n f i
below-same m n f i h back = elim (dec_lt i n) [
  | yes q ↦ below_in m f i (back q) ∙ sym (below_in n f i q)
  | no q ↦ below_out m f i (omega arith) ∙ sym (below_out n f i (omega arith))
]

-- what a slice adds in the limbs that a width is worked on in: nothing where it has no bytes for all limbs
abbrev in_reach : ℕ → List ℕ → ℕ → ℕ
in_reach m s i = choose (leb carried_bytes (length s)) (below (64 * reach m) (coord s) i) 0

module _ (s : List ℕ) where
  -- a limb of the slice more
  pub plus-limb : (w : ℕ) {x out : List ℕ} {y : ℕ} → Plus (below (64 * w) (coord s)) x out → Limbs x → w < carried_limbs → y ≡ value 64 (λ j. coord s (8 * w * 8 + j))
      → Plus (below (64 * (w + 1)) (coord s)) x (set out w (bit_xor (get_or x w 0) y))
  plus-limb w {x} {out} {y} done small h e = plus-set _ w _ done h (rw e (xor_lt 64 _ _ (small w) (value-lt 64 _)))
      (λ i q. xor-bit (get_or x w 0) y (i % 64) ∙ ap₂ (λ a b. (a + b) % 2) (limb-bit x w i q) (bit i q))
      (λ i n. below-same (64 * w) (64 * (w + 1)) (coord s) i (omega arith) (λ q. omega arith))
    where
      bit : (i : ℕ) → i / 64 ≡ w → y / 2 ^ (i % 64) % 2 ≡ below (64 * (w + 1)) (coord s) i
      bit i q =
          let place : 8 * w * 8 + i % 64 ≡ i = omega arith in
          ap (λ z. z / 2 ^ (i % 64) % 2) e ∙ value-bit 64 _ (i % 64) (omega arith) ∙ ap (λ k. coord s k % 2) place ∙ mod-eq_of_lt (coord-lt s i)
          ∙ sym (below_in (64 * (w + 1)) (coord s) i (omega arith))

  -- a byte of the slice, in the limb where it is added
  byte-bit : (b i : ℕ) → get_or s b 0 < 256 → i / 64 ≡ b / 8
      → below (8 * b) (coord s) i + get_or s b 0 * 2 ^ (8 * (b % 8)) % 2 ^ 64 / 2 ^ (i % 64) % 2 ≡ below (8 * (b + 1)) (coord s) i
  byte-bit b i small q = elim (dec_lt (i % 64) (8 * (b % 8))) [
    | yes l ↦ rw (shl-bit-out (get_or s b 0) 64 (8 * (b % 8)) (i % 64) l (omega arith), below_in (8 * b) (coord s) i (omega arith), below_in (8 * (b + 1)) (coord s) i (omega arith)) (omega arith)
    | no l ↦ rw (shl-bit (get_or s b 0) 64 (8 * (b % 8)) (i % 64) (omega arith) (omega arith), below_out (8 * b) (coord s) i (omega arith), zero-add) (elim (dec_lt (i % 64 - 8 * (b % 8)) 8) [
      | yes r ↦
          let place : b * 8 + (i % 64 - 8 * (b % 8)) ≡ i = omega arith in
          sym (coord-digit s b (i % 64 - 8 * (b % 8)) r) ∙ ap (coord s) place ∙ sym (below_in (8 * (b + 1)) (coord s) i (omega arith))
      | no r ↦
          ap (λ z. z % 2) (div-eq_of_lt (lt_of_lt_of_le small (pow_mono {i = 8} {j = i % 64 - 8 * (b % 8)} (omega arith))))
          ∙ sym (below_out (8 * (b + 1)) (coord s) i (omega arith))
    ])
  ]

  -- a byte of the slice more
  pub plus-byte : (b : ℕ) {x out : List ℕ} {y : ℕ} → Plus (below (8 * b) (coord s)) x out → b < carried_bytes → get_or s b 0 < 256 → y ≡ get_or s b 0
      → Plus (below (8 * (b + 1)) (coord s)) x (set out (b / 8) (bit_xor (get_or out (b / 8) 0) (y * 2 ^ (8 * (b % 8)) % 2 ^ 64)))
  plus-byte b {x} {out} {y} done h small e = plus-set _ (b / 8) _ done (omega arith) (xor_lt 64 _ _ (done.small (b / 8)) (mod-lt _ (pow_pos 64)))
      (λ i q. rw e (xor-bit (get_or out (b / 8) 0) _ (i % 64) ∙ omega (arith, limb-bit out (b / 8) i q, done.coords i, byte-bit b i small q)))
      (λ i n. below-same (8 * b) (8 * (b + 1)) (coord s) i (omega arith) (λ q. omega arith))

  -- all turns made
  pub plus-reach : (w m : ℕ) {x out : List ℕ} → Plus (below (64 * w) (coord s)) x out → w ≡ reach m → carried_bytes ≤ length s
      → out ≡ pack_limbs carried_limbs (λ i. limb_coord x i + in_reach m s i)
  plus-reach w m done e h = plus-all (in_reach m s) done (λ i l.
      ap (λ k. below (64 * k) (coord s) i) e ∙ sym (ap (λ t. choose t (below (64 * reach m) (coord s) i) 0) (le-leb carried_bytes (length s) h)))

  pub plus-few : (m : ℕ) {x : List ℕ} → length x ≡ carried_limbs → Limbs x → length s < carried_bytes → x ≡ pack_limbs carried_limbs (λ i. limb_coord x i + in_reach m s i)
  plus-few m size small h = plus-all (in_reach m s) (plus_none _ size small (λ i.
      ap (λ t. choose t (below (64 * reach m) (coord s) i) 0) (lt-leb carried_bytes (length s) h))) (λ i l. refl)

  pub plus-bytes : (b : ℕ) {x out : List ℕ} → Plus (below (8 * b) (coord s)) x out → ((i : ℕ) → i < 64 * carried_limbs → 8 * b ≤ i → coord s i ≡ 0)
      → out ≡ pack_limbs carried_limbs (λ i. limb_coord x i + coord s i)
  plus-bytes b done none = plus-all (coord s) done (λ i h. elim (dec_lt i (8 * b)) [
    | yes q ↦ below_in (8 * b) (coord s) i q
    | no q ↦ below_out (8 * b) (coord s) i (omega arith) ∙ sym (none i h (omega arith))
  ])

  -- a byte with no bit at k and above, by its coordinates and back
  pub byte-clear : (b k i : ℕ) → get_or s b 0 / 2 ^ k ≡ 0 → b * 8 + k ≤ i → i < b * 8 + 8 → coord s i ≡ 0
  byte-clear b k i e h l =
      let place : i ≡ b * 8 + (k + (i - (b * 8 + k))) = omega arith in
      ap (coord s) place ∙ coord-digit s b (k + (i - (b * 8 + k))) (omega arith)
      ∙ ap (λ z. z % 2) (sym (shr-shr (get_or s b 0) k (i - (b * 8 + k))) ∙ ap (λ z. z / 2 ^ (i - (b * 8 + k))) e ∙ zero-div _)

  clear-byte : (b k : ℕ) → get_or s b 0 < 256 → ((i : ℕ) → b * 8 + k ≤ i → coord s i ≡ 0) → get_or s b 0 / 2 ^ k ≡ 0
  clear-byte b k small none = value-eq 8 (λ j. 0) _ (omega (arith, shr_le (get_or s b 0) k)) (λ j l.
      ap (λ z. z % 2) (shr-shr (get_or s b 0) k j) ∙ bit (k + j) (omega arith)) ∙ sym (value-eq 8 (λ j. 0) 0 (omega arith) (λ j l. ap (λ z. z % 2) (zero-div _)))
    where
      bit : (j : ℕ) → k ≤ j → get_or s b 0 / 2 ^ j % 2 ≡ 0
      bit j h = elim (dec_lt j 8) [
        | yes l ↦ sym (coord-digit s b j l) ∙ none (b * 8 + j) (omega arith)
        | no l ↦ ap (λ z. z % 2) (div-eq_of_lt (lt_of_lt_of_le small (pow_mono {i = 8} {j = j} (omega arith))))
      ]

-- the test, by a byte that is not clear
is_false : (t : Bool) → (t ≡ true → ⊥) → false ≡ t
is_false true h = absurd (h refl)
is_false false h = refl

pub not-clear : (m : ℕ) (s : List ℕ) (b k : ℕ) → get_or s b 0 < 256 → m ≤ b * 8 + k → (get_or s b 0 / 2 ^ k ≡ 0 → ⊥) → false ≡ is_clear m s
not-clear m s b k small h some = is_false (is_clear m s) (λ e. some (clear-byte s b k small (λ i l. clear_at m s e i (omega arith))))

-- by all bytes
pub all-clear : (m : ℕ) (s : List ℕ) (n : ℕ) → length s ≤ n → ((i : ℕ) → m ≤ i → i < 8 * n → coord s i ≡ 0) → true ≡ is_clear m s
all-clear m s n h clear = sym (clear_of m s (λ i l. elim (dec_lt i (8 * n)) [
  | yes q ↦ clear i l q
  | no q ↦ coord-past s i (omega arith)
]))

-- by the bytes past the one that the width ends in
pub rest-clear : (m : ℕ) (s : List ℕ) (b : ℕ) (r : Bool) → ((k : ℕ) → get_or s k 0 < 256) → m ≤ b * 8 → ((i : ℕ) → m ≤ i → i < b * 8 → coord s i ≡ 0)
    → MatchBool r (AllWithin (λ x. x ≡ 0) (between b (length s) s) 0 (length (between b (length s) s)))
    ((k : ℕ) × (k < length (between b (length s) s)) × HoldsAt (λ x. x ≡ 0 → ⊥) (between b (length s) s) k)
    → r ≡ is_clear m s
rest-clear m s b true small h front zeros = all-clear m s (length s) (omega arith) (λ i l k. elim (dec_lt i (b * 8)) [
  | yes q ↦ front i l q
  | no q ↦ byte-clear s (i / 8) 0 i (rw (div-one) (byte (i / 8) (omega arith) (omega arith))) (omega arith) (omega arith)
])
  where
    byte : (j : ℕ) → b ≤ j → j < length s → get_or s j 0 ≡ 0
    byte j p q =
        let place : b + (j - b) ≡ j = omega arith in
        ap (λ k. get_or s k 0) (sym place) ∙ sym (get_or-between s b (length s) (j - b) 0 (omega arith)) ∙ zeros (j - b) 0 (omega arith) (omega (arith, length-between s b (length s) (omega arith)))
rest-clear m s b false small h front some = not-clear m s (b + some.0) 0 (small _) (omega arith) (λ e. some.2 0 (get_or-between s b (length s) some.0 0 (omega (arith, some.1, length-between s b (length s) (omega arith))) ∙ (omega (arith, e))))
