-- The trace and the solution of z² + z = c, limb by limb.
-- One limb: its sums of bits from the lowest on, by windows of doubled length.
-- The trace: the limbs folded into one.
-- The solution: the loop's invariant, its start, a turn, its end.
use mathlib.Core.Path.{◌≡◌, refl, sym, ap, ap₂, subst, ◌∙◌}
use mathlib.Core.List.{List, [], ◌∷◌}
use Prim.Native.Nat.{ℕ, zero, suc, ◌+◌, ◌-◌, ◌*◌, ◌/◌, ◌%◌, ◌^◌, ◌<◌, ◌≤◌}
use native.Mathlib.Nat.{mod-lt, mod-mod, mul_comm}
use native.Mathlib.Numerals.{add-one}
use native.Mathlib.Decide.{dec_lt}
use native.Mathlib.Omega.{arith}
use lib.ListN.{length, get_or, set, replicate}
use lib.Bits.{bit_xor, xor_lt}
use lib.Pow.{pow_pos, pow_mono, pow-add}
use Rattle.gf2.specs.Sums.{sum}
use Rattle.gf2.specs.Coordinates.{coord, value, tabulate}
use Rattle.gf2.specs.Operands.{below, from_coords}
use Rattle.gf2.specs.Quadratic.{root_coord}
use Rattle.gf2.proofs.Sums.{sum-ext, sum-split, sum-swap, sum-digits, sum-mod}
use Rattle.gf2.proofs.Coordinates.{value-ext, value-lt, value-bit, value-eq, value-xor, tabulate-ext, get_d_tabulate, xor-bit, shl-bit, shl-bit-out}
use Rattle.gf2.proofs.Operands.{below_in, below_out, from-ext}
use Rattle.gf2.proofs.Loops.{Filled, filled_none, filled_more, filled-all, filled-early}
use Rattle.limbs.specs.Limbs.{limb_coord, pack_limbs}
use Rattle.limbs.proofs.LimbCoords.{limb-digit, limb-pack, limbs-lt, limbs-ext}
use Rattle.limbs.proofs.LimbLoops.{low-limbs, low-none}

-- the sum of the first n bits of a number
abbrev pub bits : ℕ → ℕ → ℕ
bits x n = sum n (λ j. x / 2 ^ j % 2)

-- bit j of s is the sum of the k bits of x that end at j
pub record Window (x k s : ℕ) : Type 0 where
  pub small : s < 2 ^ 64
  pub sums : (j : ℕ) → j < 64 → s / 2 ^ j % 2 ≡ (bits x (suc j) + bits x (suc j - k)) % 2

pub window-one : (x : ℕ) → x < 2 ^ 64 → Window x 1 x
unfolding sum
window-one x h = record { small = h; sums = λ j l. let back : j ≡ suc j - 1 = omega arith in twice j (bits x j) ∙ ap (λ k. (bits x (suc j) + bits x k) % 2) back }
  where
    twice : (j y : ℕ) → x / 2 ^ j % 2 ≡ (y + x / 2 ^ j % 2 + y) % 2
    twice j y = omega arith

pub window-twice : {x k s : ℕ} → Window x k s → Window x (k + k) (bit_xor s (s * 2 ^ k % 2 ^ 64))
window-twice {x} {k} {s} w = record {
  small = xor_lt 64 s _ w.small (mod-lt _ (pow_pos 64));
  sums = λ j l. xor-bit s (s * 2 ^ k % 2 ^ 64) j ∙ elim (dec_lt j k) [
    | yes h ↦
        let a : suc j - k ≡ 0 = omega arith in
        let b : suc j - (k + k) ≡ 0 = omega arith in
        rw (shl-bit-out s 64 k j h l, w.sums j l, a, b) (omega arith)
    | no h ↦
        let a : suc (j - k) ≡ suc j - k = omega arith in
        let b : suc (j - k) - k ≡ suc j - (k + k) = omega arith in
        cancel (bits x (suc j)) (bits x (suc j - k)) (bits x (suc j - (k + k))) (w.sums j l) (shl-bit s 64 k j (omega arith) l ∙ w.sums (j - k) (omega arith) ∙ ap₂ (λ y z. (bits x y + bits x z) % 2) a b)
  ];
}
  where
    cancel : {p q : ℕ} (a b c : ℕ) → p ≡ (a + b) % 2 → q ≡ (b + c) % 2 → (p + q) % 2 ≡ (a + c) % 2
    cancel a b c e f = omega arith

-- the shifts that double a window
shift-at : (i : ℕ) → i < 6 → get_or (1 ∷ 2 ∷ 4 ∷ 8 ∷ 16 ∷ 32 ∷ []) i 0 ≡ 2 ^ i
shift-at zero h = refl
shift-at (suc zero) h = refl
shift-at (suc (suc zero)) h = refl
shift-at (suc (suc (suc zero))) h = refl
shift-at (suc (suc (suc (suc zero)))) h = refl
shift-at (suc (suc (suc (suc (suc zero))))) h = refl
shift-at (suc (suc (suc (suc (suc (suc i)))))) h = absurd (omega arith)

pub shift-fits : (i : ℕ) → i < 6 → get_or (1 ∷ 2 ∷ 4 ∷ 8 ∷ 16 ∷ 32 ∷ []) i 0 < 64
shift-fits i h = rw (shift-at i h) (omega (arith, pow_mono {i = i} {j = 5} (omega arith)))

pub window-next : {x s : ℕ} (i : ℕ) → i < 6 → Window x (2 ^ i) s → Window x (2 ^ (i + 1)) (bit_xor s (s * 2 ^ get_or (1 ∷ 2 ∷ 4 ∷ 8 ∷ 16 ∷ 32 ∷ []) i 0 % 2 ^ 64))
window-next {x} {s} i h w = rw (shift-at i h) (subst (λ k. Window x k (bit_xor s (s * 2 ^ (2 ^ i) % 2 ^ 64))) twice (window-twice w))
  where
    twice : 2 ^ i + 2 ^ i ≡ 2 ^ (i + 1)
    twice = omega (arith, pow-add 2 i 1)

pub window-all : {x s : ℕ} (i : ℕ) → i ≡ 6 → Window x (2 ^ i) s → Window x 64 s
window-all {x} {s} i e w = subst (λ k. Window x (2 ^ k) s) e w

-- a carry of 1 turns every bit
carried-bits : (carry : ℕ) → carry < 2 → carry * (2 ^ 64 - 1) ≡ value 64 (λ j. carry)
unfolding value sum
carried-bits zero h = refl
carried-bits (suc zero) h = refl
carried-bits (suc (suc n)) h = absurd (omega arith)

pub window-carry : {x s : ℕ} (carry : ℕ) → Window x 64 s → carry < 2 → bit_xor s (carry * (2 ^ 64 - 1)) ≡ value 64 (λ j. carry + bits x (suc j))
window-carry {x} {s} carry w h =
    ap₂ bit_xor (value-eq 64 (λ j. bits x (suc j)) s w.small (λ j l.
    let e : suc j - 64 ≡ 0 = omega arith in
    w.sums j l ∙ rw e (unfold sum in omega arith))) (carried-bits carry h)
    ∙ value-xor 64 (λ j. bits x (suc j)) (λ j. carry) ∙ value-ext 64 _ _ (λ j l. omega arith)

-- the sum of the first w limbs of coordinates f, bit by bit modulo 2
abbrev pub folded_to : (ℕ → ℕ) → ℕ → ℕ
folded_to f w = value 64 (λ j. sum w (λ t. f (t * 64 + j)))

pub folded-none : (f : ℕ → ℕ) → 0 ≡ folded_to f 0
unfolding value sum
folded-none f = refl

pub folded_more : (f : ℕ → ℕ) (w : ℕ) {total limb : ℕ} → total ≡ folded_to f w → limb ≡ value 64 (λ j. f (w * 64 + j)) → bit_xor total limb ≡ folded_to f (w + 1)
unfolding sum
folded_more f w e q = rw (e, q, value-xor, add-one)

pub folded-trace : (n : ℕ) (f : ℕ → ℕ) → bits (folded_to f n) 64 % 2 ≡ sum (64 * n) f % 2
folded-trace n f =
    ap (λ s. s % 2) (sum-ext 64 _ (λ j. sum n (λ t. f (t * 64 + j)) % 2) (λ j l. value-bit 64 (λ i. sum n (λ t. f (t * 64 + i))) j l))
    ∙ sum-mod 64 (λ j. sum n (λ t. f (t * 64 + j)))
    ∙ ap (λ s. s % 2) (sum-swap 64 n (λ j t. f (t * 64 + j)) ∙ sym (sum-digits n 64 f) ∙ ap (λ k. sum k f) (mul_comm n 64))

-- the solution's coordinates as sums from coordinate 0 on
pub root-sum : (c : List ℕ) (i : ℕ) → root_coord c i ≡ (coord c 0 + sum (suc i) (coord c)) % 2
unfolding root_coord sum
root-sum c zero = omega arith
root-sum c (suc i) = omega (arith, root-sum c i)

pub root-from : (n m : ℕ) (c : List ℕ) → from_coords n m (λ i. coord c 0 + sum (suc i) (coord c)) ≡ from_coords n m (root_coord c)
root-from n m c = from-ext n m _ (root_coord c) (λ i h. omega (arith, root-sum c i))

-- the same sums over limbs
abbrev pub sums_to : List ℕ → ℕ → ℕ
sums_to c i = limb_coord c 0 + sum (suc i) (limb_coord c)

-- the first w limbs of the solution are there, cut at m, and `carry` is its last coordinate in them
pub record Rooted (n m : ℕ) (c l₀ l : List ℕ) (carry w : ℕ) : Type 0 where
  pub filled : Filled n (λ k. value 64 (λ j. sums_to c (k * 64 + j)) % 2 ^ (m - k * 64)) l₀ l w
  pub last : carry ≡ (limb_coord c 0 + sum (w * 64) (limb_coord c)) % 2

pub rooted_none : (n m : ℕ) (c l : List ℕ) → Rooted n m c l l (get_or c 0 0 % 2) 0
unfolding sum
rooted_none n m c l = record { filled = filled_none n _ l; last = omega (arith, limb-digit c 0 0 (omega arith)) }

-- limbs of the solution, each cut at m
rooted-limbs : (n m : ℕ) (f : ℕ → ℕ) → tabulate n (λ k. value 64 (λ j. f (k * 64 + j)) % 2 ^ (m - k * 64)) ≡ pack_limbs n (below m f)
unfolding pack_limbs
rooted-limbs n m f =
    tabulate-ext n _ _ (λ k h. ap (λ x. x % 2 ^ (m - k * 64)) (sym (get_d_tabulate n (λ w. value 64 (λ j. f (w * 64 + j))) k h)))
    ∙ low-limbs n m (pack_limbs n f) (limbs-lt n f) ∙ limbs-ext n (below m (limb_coord (pack_limbs n f))) (below m f) (λ i h. elim (dec_lt i m) [
      | yes l ↦ ap (λ y. y % 2) (below_in m (limb_coord (pack_limbs n f)) i l ∙ limb-pack n f i h) ∙ mod-mod (f i) 2 ∙ ap (λ y. y % 2) (sym (below_in m f i l))
      | no l ↦ ap (λ y. y % 2) (below_out m (limb_coord (pack_limbs n f)) i (omega arith) ∙ sym (below_out m f i (omega arith)))
    ])

module _ {n m : ℕ} {c l₀ l : List ℕ} {carry w : ℕ} (done : Rooted n m c l₀ l carry w) where
  pub rooted-carry : carry < 2
  rooted-carry = rw done.last (omega arith)

  pub rooted_more : {sums low : ℕ} → sums ≡ value 64 (λ j. carry + bits (get_or c w 0) (suc j)) → low ≡ sums % 2 ^ (m - w * 64) → w < n → n ≤ length l₀
      → Rooted n m c l₀ (set l w low) (sums / 2 ^ 63) (w + 1)
  rooted_more {sums} e cut h room = record {
    filled = filled_more done.filled h room (cut ∙ ap (λ s. s % 2 ^ (m - w * 64)) same);
    last = top sums same (value-lt 64 _) (value-bit 64 (λ j. sums_to c (w * 64 + j)) 63 (omega arith)) (ap (λ k. sum k (limb_coord c)) (omega arith));
  }
    where
      coords : (j : ℕ) → j < 64 → bits (get_or c w 0) (suc j) ≡ sum (suc j) (λ t. limb_coord c (w * 64 + t))
      coords j l = sum-ext (suc j) _ _ (λ t h. sym (limb-digit c w t (omega arith)))

      next : (j : ℕ) → sum (suc (w * 64 + j)) (limb_coord c) ≡ sum (w * 64) (limb_coord c) + sum (suc j) (λ t. limb_coord c (w * 64 + t))
      next j = ap (λ k. sum k (limb_coord c)) (omega arith) ∙ sum-split (w * 64) (suc j) (limb_coord c)

      same : sums ≡ value 64 (λ j. sums_to c (w * 64 + j))
      same = e ∙ value-ext 64 _ _ (λ j l. omega (arith, done.last, coords j l, next j))

      top : (s : ℕ) {v x y : ℕ} → s ≡ v → v < 2 ^ 64 → v / 2 ^ 63 % 2 ≡ (limb_coord c 0 + x) % 2 → x ≡ y → s / 2 ^ 63 ≡ (limb_coord c 0 + y) % 2
      top s p q t u = omega arith

  pub rooted-all : n ≤ w → length l₀ ≤ n → l ≡ pack_limbs n (below m (sums_to c))
  rooted-all h size = filled-all done.filled h size ∙ rooted-limbs n m (sums_to c)

  -- the width ends before limb w
  pub rooted-early : l₀ ≡ replicate n 0 → m ≤ 64 * w → l ≡ pack_limbs n (below m (sums_to c))
  rooted-early e h =
      let cut : ℕ → ℕ = λ k. value 64 (λ j. sums_to c (k * 64 + j)) % 2 ^ (m - k * 64) in
      filled-early {f = cut} (subst (λ z. Filled n cut z l w) e done.filled) (λ k p q. low-none (value 64 (λ j. sums_to c (k * 64 + j))) m k (omega arith)) ∙ rooted-limbs n m (sums_to c)
