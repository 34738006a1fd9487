-- Laws of operands as bytes, by their coordinates.
-- Operands made from coordinates: their form, their coordinates, equality of two.
-- The test of the bits at the width and above.
-- Indices modulo the width, and sums over them from another place on. Turns and sums: their form and their coordinates.
use mathlib.Core.Path.{◌≡◌, sym, ap, ap₂, ◌∙◌}
use mathlib.Core.List.{List}
use mathlib.Core.Bool.{Bool, true, false, ◌||◌}
use Prim.Native.Nat.{ℕ, ◌+◌, ◌-◌, ◌*◌, ◌%◌, ◌<◌, ◌≤◌}
use native.Mathlib.Nat.{add_comm, mod-lt, mod-eq_of_lt, add-mod_left, mod-mod, lt_of_le_of_lt}
use native.Mathlib.Decide.{dec_lt}
use native.Mathlib.Omega.{arith}
use lib.ListN.{length}
use lib.Dec.{ltb, eqb}
use borrow.Author.Tests.{lt-ltb, le-ltb, eqb-true}
use Rattle.gf2.specs.Sums.{sum}
use Rattle.gf2.specs.Coordinates.{coord, pack}
use Rattle.gf2.specs.Operands.{minus, IsOperand, is_clear, below, from_coords, added, turned}
use Rattle.gf2.proofs.Sums.{sum-ext, sum-split, every-at, every_of}
use Rattle.gf2.proofs.Coordinates.{coord-lt, coord-past, coord-pack, length-pack, pack-byte, pack-eq, pack-ext}

pub below_in : (m : ℕ) (f : ℕ → ℕ) (i : ℕ) → i < m → below m f i ≡ f i
unfolding below
below_in m f i h = rw (lt-ltb i m h)

pub below_out : (m : ℕ) (f : ℕ → ℕ) (i : ℕ) → m ≤ i → below m f i ≡ 0
unfolding below
below_out m f i h = rw (le-ltb i m h)

pub coord-from : (n m : ℕ) (f : ℕ → ℕ) → m ≤ 8 * n → (i : ℕ) → i < m → coord (from_coords n m f) i ≡ f i % 2
unfolding from_coords
coord-from n m f h i l = coord-pack n (below m f) i (omega arith) ∙ ap (λ x. x % 2) (below_in m f i l)

pub coord-from-out : (n m : ℕ) (f : ℕ → ℕ) (i : ℕ) → m ≤ i → coord (from_coords n m f) i ≡ 0
unfolding from_coords
coord-from-out n m f i h = elim (dec_lt i (8 * n)) [
  | yes l ↦ coord-pack n (below m f) i l ∙ ap (λ x. x % 2) (below_out m f i h)
  | no l ↦ coord-past (pack n (below m f)) i (omega (arith, length-pack n (below m f)))
]

pub length_from : (n m : ℕ) (f : ℕ → ℕ) → length (from_coords n m f) ≡ n
unfolding from_coords
length_from n m f = length-pack n (below m f)

pub from-operand : (n m : ℕ) (f : ℕ → ℕ) → IsOperand n m (from_coords n m f)
from-operand n m f = record {
  size = length_from n m f;
  byte = unfold from_coords in pack-byte n (below m f);
  clear = coord-from-out n m f;
}

-- bytes that agree with f below m, and are 0 from there, are the operand of f
pub from-eq : (n m : ℕ) (f : ℕ → ℕ) {a : List ℕ} → IsOperand n m a → ((i : ℕ) → i < m → coord a i ≡ f i % 2) → a ≡ from_coords n m f
unfolding from_coords
from-eq n m f {a} o e = pack-eq n (below m f) a o.size o.byte (λ i h. elim (dec_lt i m) [
  | yes l ↦ e i l ∙ ap (λ x. x % 2) (sym (below_in m f i l))
  | no l ↦ o.clear i (omega arith) ∙ ap (λ x. x % 2) (sym (below_out m f i (omega arith)))
])

-- bytes whose coordinates from m on are 0 are those of the operand
pub clear-pack : (n m : ℕ) (f : ℕ → ℕ) → ((i : ℕ) → m ≤ i → f i ≡ 0) → pack n f ≡ from_coords n m f
unfolding from_coords
clear-pack n m f h = pack-ext n f (below m f) (λ i l. ap (λ x. x % 2) (elim (dec_lt i m) [
  | yes q ↦ sym (below_in m f i q)
  | no q ↦ h i (omega arith) ∙ sym (below_out m f i (omega arith))
]))

pub from-ext : (n m : ℕ) (f g : ℕ → ℕ) → ((i : ℕ) → i < m → f i % 2 ≡ g i % 2) → from_coords n m f ≡ from_coords n m g
unfolding from_coords
from-ext n m f g e = pack-ext n (below m f) (below m g) (λ i h. elim (dec_lt i m) [
  | yes l ↦ ap (λ x. x % 2) (below_in m f i l) ∙ e i l ∙ ap (λ x. x % 2) (sym (below_in m g i l))
  | no l ↦ ap (λ x. x % 2) (below_out m f i (omega arith) ∙ sym (below_out m g i (omega arith)))
])

-- an operand is made from its coordinates
pub from-coord : {n m : ℕ} {a : List ℕ} → IsOperand n m a → a ≡ from_coords n m (coord a)
from-coord {n} {m} {a} o = from-eq n m (coord a) o (λ i l. sym (mod-eq_of_lt (coord-lt a i)))

-- two operands of one width are equal where their coordinates are
pub operand-ext : {n m : ℕ} {a b : List ℕ} → IsOperand n m a → IsOperand n m b → ((i : ℕ) → i < m → coord a i ≡ coord b i) → a ≡ b
operand-ext {n} {m} {a} {b} o q e = from-eq n m (coord b) o (λ i l. e i l ∙ sym (mod-eq_of_lt (coord-lt b i))) ∙ sym (from-coord q)

-- the test of the bits at m and above, both ways
or-true : (a b : Bool) → (a || b) ≡ true → a ≡ false → b ≡ true
or-true true b e q = absurd (let z : ◌≡◌ {A = ℕ} 0 1 = cc in omega arith)
or-true false b e q = e

pub clear_at : (m : ℕ) (a : List ℕ) → is_clear m a ≡ true → (i : ℕ) → m ≤ i → coord a i ≡ 0
unfolding is_clear
clear_at m a e i h = elim (dec_lt i (8 * length a)) [
  | yes l ↦ eqb-true _ _ (or-true _ _ (every-at (8 * length a) (λ i. ltb i m || eqb (coord a i) 0) e i l) (le-ltb i m h))
  | no l ↦ coord-past a i (omega arith)
]

pub clear_of : (m : ℕ) (a : List ℕ) → ((i : ℕ) → m ≤ i → coord a i ≡ 0) → is_clear m a ≡ true
unfolding is_clear
clear_of m a h = every_of (8 * length a) _ (λ i l. elim (dec_lt i m) [
  | yes q ↦ rw (lt-ltb i m q)
  | no q ↦ rw (le-ltb i m (omega arith), h i (omega arith))
])

-- i - k modulo m, and without the modulus
pub minus-lt : (m i k : ℕ) → 0 < m → minus m i k < m
unfolding minus
minus-lt m i k h = mod-lt _ h

pub minus-below : (m i k : ℕ) → k ≤ i → i < m → minus m i k ≡ i - k
unfolding minus
minus-below m i k h l =
    let e : i + (m - k) ≡ m + (i - k) = omega arith in
    rw (mod-eq_of_lt (lt_of_le_of_lt h l), e, add-mod_left) (mod-eq_of_lt (omega arith))

pub minus-round : (m i k : ℕ) → i < k → k < m → minus m i k ≡ i + (m - k)
unfolding minus
minus-round m i k h l = rw (mod-eq_of_lt l) (mod-eq_of_lt (omega arith))

-- k may be taken modulo m first
pub minus-modulo : (m i k : ℕ) → minus m i k ≡ minus m i (k % m)
unfolding minus
minus-modulo m i k = rw (mod-mod k m)

pub turned-modulo : (m k : ℕ) (a : List ℕ) → turned m k a ≡ turned m (k % m) a
unfolding turned minus
turned-modulo m k a = rw (mod-mod k m)

-- terms taken in turn from another place on
pub sum-shift : (m i : ℕ) (f : ℕ → ℕ) → i < m → sum m (λ j. f (minus m j i)) ≡ sum m f
sum-shift m i f l =
    ap (λ n. sum n (λ j. f (minus m j i))) there ∙ sum-split i (m - i) _
    ∙ ap₂ ◌+◌ (sum-ext i _ (λ j. f (m - i + j)) (λ j lj. ap f (minus-round m j i lj l ∙ omega arith)))
    (sum-ext (m - i) _ f (λ k lk. ap f (minus-below m (i + k) i (omega arith) (omega arith) ∙ omega arith)))
    ∙ add_comm (sum i (λ j. f (m - i + j))) (sum (m - i) f) ∙ sym (sum-split (m - i) i f) ∙ ap (λ n. sum n f) back
  where
    there : m ≡ i + (m - i)
    there = omega arith

    back : m - i + i ≡ m
    back = omega arith

-- turns and sums are operands, with these coordinates
module _ {n m : ℕ} (a : List ℕ) (size : length a ≡ n) where
  pub turned-operand : (k : ℕ) → IsOperand n m (turned m k a)
  unfolding turned
  turned-operand k = rw size (from-operand n m _)

  pub added-operand : (b : List ℕ) → IsOperand n m (added m a b)
  unfolding added
  added-operand b = rw size (from-operand n m _)

  module _ (fits : m ≤ 8 * n) where
    pub coord-turned : (k i : ℕ) → i < m → coord (turned m k a) i ≡ coord a (minus m i k)
    unfolding turned
    coord-turned k i l = rw size (coord-from n m _ fits i l ∙ mod-eq_of_lt (coord-lt a (minus m i k)))

    pub coord-added : (b : List ℕ) (i : ℕ) → i < m → coord (added m a b) i ≡ (coord a i + coord b i) % 2
    unfolding added
    coord-added b i l = rw size (coord-from n m _ fits i l)
