-- Laws of limbs and their coordinates, and of the ways from bytes to limbs and back.
-- Coordinates: `limb_coord` of `pack_limbs` and back, as for bytes; both are digits of one size each.
-- Bytes: eight bytes joined to a limb.
use mathlib.Core.Path.{◌≡◌, refl, sym, ap, ap₂, fun_ext, ◌∙◌}
use mathlib.Core.List.{List}
use Prim.Native.Nat.{ℕ, zero, suc, ◌+◌, ◌-◌, ◌*◌, ◌/◌, ◌%◌, ◌^◌, ◌<◌, ◌≤◌}
use native.Mathlib.Nat.{add-zero, add_comm, mul_comm, mod-eq_of_lt, mod-lt, mod-mod, zero-div, div-eq_of_lt, lt_of_le_of_lt, lt_of_lt_of_le}
use native.Mathlib.Decide.{dec_lt}
use native.Mathlib.Omega.{arith}
use lib.ListN.{length, get_or, replicate, length-replicate, get_or-replicate, get_or-eq_default}
use lib.Bits.{bit_or, or_shifted}
use lib.Pow.{pow_mono, shr-shr, shr_le}
use Rattle.gf2.specs.Sums.{sum}
use Rattle.gf2.specs.Coordinates.{coord, value, tabulate, pack}
use Rattle.gf2.proofs.Coordinates.{value-ext, value-lt, value-bit, value-eq, value-split, length-tabulate, digit_at, digit-past, packed_lt, digit-packed, packed-of, packed-eq, digit-none, coord-lt, coord-past, coord-digit, pack-of, pack-ext, mod-bit}
use Rattle.gf2.specs.Operands.{carried_bytes, below}
use Rattle.gf2.proofs.Operands.{below_in, below_out}
use Rattle.limbs.specs.Limbs.{carried_limbs, limb_coord, pack_limbs}

pub limb-lt : (limbs : List ℕ) (i : ℕ) → limb_coord limbs i < 2
unfolding limb_coord
limb-lt limbs i = omega arith

pub limb-past : (limbs : List ℕ) (i : ℕ) → 64 * length limbs ≤ i → limb_coord limbs i ≡ 0
unfolding limb_coord
limb-past limbs i h = digit-past 64 (omega arith) limbs i (omega arith)

-- the coordinates of one limb
pub limb-digit : (limbs : List ℕ) (w j : ℕ) → j < 64 → limb_coord limbs (w * 64 + j) ≡ get_or limbs w 0 / 2 ^ j % 2
unfolding limb_coord
limb-digit limbs w j h = digit_at 64 (omega arith) limbs w j h

pub length-limbs : (n : ℕ) (f : ℕ → ℕ) → length (pack_limbs n f) ≡ n
unfolding pack_limbs
length-limbs n f = length-tabulate n _

pub limbs-lt : (n : ℕ) (f : ℕ → ℕ) (w : ℕ) → get_or (pack_limbs n f) w 0 < 2 ^ 64
unfolding pack_limbs
limbs-lt n f w = packed_lt 64 (omega arith) n f w

pub limb-pack : (n : ℕ) (f : ℕ → ℕ) (i : ℕ) → i < 64 * n → limb_coord (pack_limbs n f) i ≡ f i % 2
unfolding limb_coord pack_limbs
limb-pack n f i h = digit-packed 64 (omega arith) n f i (omega arith)

-- a list given limb by limb has the coordinates f where each limb's bits are f's
pub limbs-of : (n : ℕ) (g f : ℕ → ℕ) → ((w : ℕ) → w < n → g w < 2 ^ 64) → ((w j : ℕ) → w < n → j < 64 → g w / 2 ^ j % 2 ≡ f (w * 64 + j) % 2) → tabulate n g ≡ pack_limbs n f
unfolding pack_limbs
limbs-of n g f small e = packed-of 64 (omega arith) n g f small e

pub limbs-ext : (n : ℕ) (f g : ℕ → ℕ) → ((i : ℕ) → i < 64 * n → f i % 2 ≡ g i % 2) → pack_limbs n f ≡ pack_limbs n g
unfolding pack_limbs limb_coord
limbs-ext n f g e = packed-eq 64 (omega arith) n g (pack_limbs n f) (length-limbs n f) (limbs-lt n f) (λ i h. limb-pack n f i (omega arith) ∙ e i (omega arith))

-- limbs are known by their coordinates
pub limbs-eq : (n : ℕ) (f : ℕ → ℕ) {x : List ℕ} → length x ≡ n → ((w : ℕ) → get_or x w 0 < 2 ^ 64) → ((i : ℕ) → i < 64 * n → limb_coord x i ≡ f i % 2) → x ≡ pack_limbs n f
unfolding pack_limbs limb_coord
limbs-eq n f {x} size small e = packed-eq 64 (omega arith) n f x size small (λ i h. e i (omega arith))

pub limb-zero : (n i : ℕ) → limb_coord (replicate n 0) i ≡ 0
unfolding limb_coord
limb-zero n i = digit-none 64 (omega arith) n i

pub limbs-zero : (n : ℕ) (f : ℕ → ℕ) → ((i : ℕ) → i < 64 * n → f i % 2 ≡ 0) → replicate n 0 ≡ pack_limbs n f
limbs-zero n f e = limbs-eq n f (length-replicate n 0) small (λ i h. limb-zero n i ∙ sym (e i h))
  where
    small : (k : ℕ) → get_or {A = ℕ} (replicate n 0) k 0 < 2 ^ 64
    small k = elim (dec_lt k n) [
      | yes h ↦ rw (get_or-replicate {A = ℕ} n k 0 0 h) (omega arith)
      | no h ↦ rw (get_or-eq_default {A = ℕ} (replicate n 0) 0 {n = k} (omega (arith, length-replicate {A = ℕ} n 0))) (omega arith)
    ]

-- bytes in a row as one number, the first lowest
unfoldable pub joined : ℕ → (ℕ → ℕ) → ℕ
joined zero g = 0
joined (suc n) g = g 0 + 256 * joined n (λ b. g (suc b))

joined-value : (n : ℕ) (g f : ℕ → ℕ) → ((b : ℕ) → g b ≡ value 8 (λ j. f (b * 8 + j))) → joined n g ≡ value (8 * n) f
unfolding joined
joined-value zero g f e = unfold value sum in refl
joined-value (suc n) g f e =
    let s : 8 * suc n ≡ 8 + 8 * n = omega arith in
    sym (ap (λ k. value k f) s ∙ value-split 8 (8 * n) f
    ∙ ap₂ ◌+◌ (sym (e 0 ∙ value-ext 8 _ f (λ j l. ap (λ i. f i % 2) (omega arith)))) (mul_comm (value (8 * n) (λ j. f (8 + j))) 256
    ∙ ap (λ x. 256 * x) (sym (joined-value n (λ b. g (suc b)) (λ j. f (8 + j)) (λ b. e (suc b) ∙ value-ext 8 _ _ (λ j l. ap (λ i. f i % 2) (omega arith)))))))

-- eight bytes of a list from b on
joined-eight : (s : List ℕ) (b : ℕ) → ((k : ℕ) → get_or s k 0 < 256) → joined 8 (λ k. get_or s (b + k) 0) ≡ value 64 (λ j. coord s (b * 8 + j))
joined-eight s b small = joined-value 8 (λ k. get_or s (b + k) 0) (λ j. coord s (b * 8 + j)) (λ k.
    value-eq 8 _ _ (small (b + k)) (λ j l. sym (coord-digit s (b + k) j l) ∙ ap (coord s) (omega arith) ∙ sym (mod-eq_of_lt (coord-lt s _))))

-- the same, written out
pub joined_bytes : (s : List ℕ) (b : ℕ) → ((k : ℕ) → get_or s k 0 < 256)
    → get_or s b 0 + 256 * (get_or s (b + 1) 0 + 256 * (get_or s (b + 2) 0 + 256 * (get_or s (b + 3) 0 + 256 * (get_or s (b + 4) 0 + 256 * (get_or s (b + 5) 0 + 256 * (get_or s (b + 6) 0 + 256 * get_or s (b + 7) 0))))))
    ≡ value 64 (λ j. coord s (b * 8 + j))
unfolding joined
joined_bytes s b small = omega (arith, joined-eight s b small, ap (λ i. get_or s i 0) (add-zero b))

-- eight bytes from b on, by those from b + 1 on: one byte more below, and the last goes
byte-under : (s : List ℕ) (b : ℕ) → get_or s b 0 < 256 → bit_or (value 64 (λ j. coord s ((b + 1) * 8 + j)) * 2 ^ 8 % 2 ^ 64) (get_or s b 0) ≡ value 64 (λ j. coord s (b * 8 + j))
byte-under s b small =
    ap (λ x. bit_or x (get_or s b 0)) (ap (λ x. x % 2 ^ 64) (ap (λ x. x * 2 ^ 8) (value-split 56 8 next)) ∙ drop) ∙ or_shifted (value 56 next) 8 (get_or s b 0) small
    ∙ ap₂ (λ x y. x * 2 ^ 8 + y) (value-ext 56 _ _ (λ j l. ap (λ i. coord s i % 2) (omega arith)))
    (value-eq 8 (λ j. coord s (b * 8 + j)) _ small (λ j l. sym (coord-digit s b j l) ∙ sym (mod-eq_of_lt (coord-lt s _))))
    ∙ add_comm _ _ ∙ sym (value-split 8 56 (λ j. coord s (b * 8 + j)))
  where
    next : ℕ → ℕ
    next j = coord s ((b + 1) * 8 + j)

    drop : (value 56 next + value 8 (λ j. next (56 + j)) * 2 ^ 56) * 2 ^ 8 % 2 ^ 64 ≡ value 56 next * 2 ^ 8
    drop = omega (arith, value-lt 56 next)

pub byte_more : (s : List ℕ) (b next : ℕ) {limb byte : ℕ} → next ≡ b + 1 → limb ≡ value 64 (λ j. coord s (next * 8 + j)) → byte ≡ get_or s b 0 → get_or s b 0 < 256
    → bit_or (limb * 2 ^ 8 % 2 ^ 64) byte ≡ value 64 (λ j. coord s (b * 8 + j))
byte_more s b next p e q small = ap₂ (λ x y. bit_or (x * 2 ^ 8 % 2 ^ 64) y) (e ∙ ap (λ k. value 64 (λ j. coord s (k * 8 + j))) p) q ∙ byte-under s b small

-- limb w of a list from its byte w * 8 on
pub limb-from : (s : List ℕ) (w b : ℕ) → w * 8 ≡ b → value 64 (λ j. coord s (b * 8 + j)) ≡ value 64 (λ j. coord s (w * 64 + j))
limb-from s w b e = value-ext 64 _ _ (λ j l. ap (λ i. coord s i % 2) (omega arith))

-- past the list's end
pub limb-none : (s : List ℕ) (k : ℕ) → 8 * length s ≤ k → 0 ≡ value 64 (λ j. coord s (k + j))
limb-none s k h = value-eq 64 _ 0 (omega arith) (λ j l. rw (zero-div, coord-past s (k + j) (omega arith)))

-- a limb in which the list ends, from the last eight bytes
pub limb-last : (s : List ℕ) (n w : ℕ) → length s ≡ n → 8 ≤ n → n ≤ w * 8 + 8
    → value 64 (λ j. coord s ((n - 8) * 8 + j)) / 2 ^ (8 * (w * 8 + 8 - n)) ≡ value 64 (λ j. coord s (w * 64 + j))
limb-last s n w size some h = value-eq 64 _ _ (lt_of_le_of_lt (shr_le _ t) (value-lt 64 _)) (λ j l.
    ap (λ y. y % 2) (shr-shr _ t j) ∙ elim (dec_lt (t + j) 64) [
      | yes q ↦ value-bit 64 (λ i. coord s ((n - 8) * 8 + i)) (t + j) q ∙ ap (λ i. coord s i % 2) (omega arith)
      | no q ↦ ap (λ y. y % 2) (div-eq_of_lt (lt_of_lt_of_le (value-lt 64 _) (pow_mono {i = 64} (omega arith)))) ∙ sym (ap (λ y. y % 2) (coord-past s (w * 64 + j) (past j (omega arith))))
    ])
  where
    t : ℕ
    t = 8 * (w * 8 + 8 - n)

    past : (j : ℕ) → 64 ≤ 8 * (w * 8 + 8 - n) + j → 8 * length s ≤ w * 64 + j
    past j q = omega arith

-- limbs given byte by byte
pub bytes_of : (n : ℕ) (x : List ℕ) → tabulate n (λ b. get_or x (b / 8) 0 / 2 ^ (8 * (b % 8)) % 256) ≡ pack n (limb_coord x)
bytes_of n x = pack-of n _ (limb_coord x) (λ b h. mod-lt _ (omega arith)) (λ b j h l.
    mod-bit _ 8 j l ∙ ap (λ y. y % 2) (shr-shr (get_or x (b / 8) 0) (8 * (b % 8)) j)
    ∙ sym (limb-digit x (b / 8) (8 * (b % 8) + j) (omega arith)) ∙ ap (limb_coord x) (omega arith) ∙ sym (mod-eq_of_lt (limb-lt x _)))

-- the limbs of bytes have their coordinates
pub slice-coord : (s : List ℕ) → length s ≤ carried_bytes → (i : ℕ) → limb_coord (pack_limbs carried_limbs (coord s)) i ≡ coord s i
slice-coord s short i = elim (dec_lt i (64 * carried_limbs)) [
  | yes h ↦ limb-pack carried_limbs (coord s) i h ∙ mod-eq_of_lt (coord-lt s i)
  | no h ↦ limb-past _ i (omega (arith, length-limbs carried_limbs (coord s))) ∙ sym (coord-past s i (omega arith))
]

pub slice-same : (s : List ℕ) {l : List ℕ} → l ≡ pack_limbs carried_limbs (coord s) → length s ≤ carried_bytes → limb_coord l ≡ coord s
slice-same s e short = ap limb_coord e ∙ fun_ext (slice-coord s short)

pub limbs-coord : (x : List ℕ) → length x ≡ carried_bytes → (i : ℕ) → limb_coord (pack_limbs carried_limbs (coord x)) i ≡ coord x i
limbs-coord x size = slice-coord x (omega (arith, size))

pub limbs-same : (x : List ℕ) {l : List ℕ} → l ≡ pack_limbs carried_limbs (coord x) → length x ≡ carried_bytes → limb_coord l ≡ coord x
limbs-same x e size = slice-same x e (omega (arith, size))

pub bytes-limbs : (f : ℕ → ℕ) → pack carried_bytes (limb_coord (pack_limbs carried_limbs f)) ≡ pack carried_bytes f
bytes-limbs f = pack-ext carried_bytes _ f (λ i h. ap (λ y. y % 2) (limb-pack carried_limbs f i (omega arith)) ∙ mod-mod _ 2)

pub bytes-from : {r limbs : List ℕ} (f : ℕ → ℕ) → r ≡ pack carried_bytes (limb_coord limbs) → limbs ≡ pack_limbs carried_limbs f → r ≡ pack carried_bytes f
bytes-from f p q = p ∙ ap (λ l. pack carried_bytes (limb_coord l)) q ∙ bytes-limbs f

pub limbs-below : (n m : ℕ) (f g : ℕ → ℕ) → ((i : ℕ) → i < m → f i % 2 ≡ g i % 2) → pack_limbs n (below m f) ≡ pack_limbs n (below m g)
limbs-below n m f g e = limbs-ext n (below m f) (below m g) (λ i h. elim (dec_lt i m) [
  | yes l ↦ ap (λ x. x % 2) (below_in m f i l) ∙ e i l ∙ ap (λ x. x % 2) (sym (below_in m g i l))
  | no l ↦ ap (λ x. x % 2) (below_out m f i (omega arith) ∙ sym (below_out m g i (omega arith)))
])
