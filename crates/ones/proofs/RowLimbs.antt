-- Rows as limbs, and their ones.
-- Next: the first one from a place on, what is known of it, and the loop that looks for it.
-- Counts: the ones of a limb, of limbs, of bytes.
-- Rows: a row of a table, as far as the table goes.
-- log2-only: the highest one of a number.
use Rattle.std.proofs.Common.{◌≡◌, ℕ, zero, suc, ◌+◌, ◌-◌, ◌*◌, ◌/◌, ◌%◌, ◌^◌, ◌<◌, ◌≤◌, List, length, get_or, take, drop, replicate, sym, refl, ap, ◌∙◌, ap₂, lt_of_le_of_lt, add-zero, mod-eq_of_lt, mul-le-mul, arith, min, length-drop, drop_of_length-le, take_all, shr-shr, le-ltb, lt-ltb, eq-eqb, ne_eqb, le-leb}
use native.Mathlib.Nat.{mul_comm, zero-div, mod-add-mod}
use native.Mathlib.Decide.{dec_lt, ℕ_discrete}
use lib.Seq.{take-nil}
use lib.Pow.{pow_pos, pow_mono, pow-add, shr_le}
use lib.Count.{count_trailing_zeros}
use borrow.Author.Tests.{lt-leb}
use Rattle.gf2.specs.Sums.{sum}
use Rattle.gf2.specs.Coordinates.{coord, value}
use Rattle.gf2.specs.Operands.{max_width, carried_bytes, bytes_for}
use Rattle.gf2.specs.Tables.{row}
use Rattle.gf2.proofs.Sums.{sum-ext, sum-split, sum-clear, sum-bits}
use Rattle.gf2.proofs.Coordinates.{value-bit, coord-lt, coord-past}
use Rattle.gf2.specs.Inverse.{log2}
use Rattle.gf2.proofs.Logarithm.{log2-bounds}
use Rattle.gf2.proofs.TrailingZeros.{trailing-low, lowest-one, one_below}
use Rattle.limbs.specs.Limbs.{carried_limbs, limb_coord, pack_limbs}
use Rattle.ones.specs.RowLimbs.{first_one, next_one, row_limbs}
use Rattle.limbs.proofs.LimbCoords.{limb-lt, limb-digit, limbs-zero}

first-zero : (f : ℕ → ℕ) (start count : ℕ) → f start ≡ 0 → first_one f start (suc count) ≡ first_one f (start + 1) count
unfolding first_one
first-zero f start count z = rw (eq-eqb (f start) 0 z)

first-here : (f : ℕ → ℕ) (start count : ℕ) → (f start ≡ 0 → ⊥) → first_one f start (suc count) ≡ start
unfolding first_one
first-here f start count n = rw (ne_eqb (f start) 0 n)

-- r is the first place from `from` on where f isn't 0, or there is none below n
pub record First (f : ℕ → ℕ) (from n r : ℕ) : Type 0 where
  pub above : from ≤ r
  pub zeros : (i : ℕ) → from ≤ i → i < r → f i ≡ 0
  pub is_one : r < n → f r ≡ 0 → ⊥

pub first-known : (f : ℕ → ℕ) (start count : ℕ) → First f start (start + count) (first_one f start count)
unfolding first_one
first-known f start zero = record { above = omega arith; zeros = λ i h l. absurd (omega arith); is_one = λ l. absurd (omega arith) }
first-known f start (suc count) = elim (ℕ_discrete (f start) 0) [
  | yes z ↦
      let next = first-known f (start + 1) count in
      rw (first-zero f start count z) (record {
        above = omega (arith, next.above);
        zeros = λ i h l. elim (ℕ_discrete i start) [
          | yes q ↦ ap f q ∙ z
          | no q ↦ next.zeros i (omega arith) l
        ];
        is_one = λ l. next.is_one (omega arith);
      })
  | no n ↦ rw (first-here f start count n) (record { above = omega arith; zeros = λ i h l. absurd (omega arith); is_one = λ l. n })
]

-- places where f is 0 are passed over
first-skip : (f : ℕ → ℕ) (m i n : ℕ) → i + n ≤ m → ((j : ℕ) → j < n → f (i + j) ≡ 0) → first_one f (i + n) (m - (i + n)) ≡ first_one f i (m - i)
first-skip f m i zero h z = ap (λ k. first_one f k (m - k)) (add-zero i)
first-skip f m i (suc n) h z =
    let e : i + suc n ≡ i + n + 1 = omega arith in
    let c : m - (i + n) ≡ suc (m - (i + n + 1)) = omega arith in
    ap (λ k. first_one f k (m - k)) e ∙ sym (ap (first_one f (i + n)) c ∙ first-zero f (i + n) (m - (i + n + 1)) (z n (omega arith)))
    ∙ first-skip f m i n (omega arith) (λ j l. z j (omega arith))

-- n places of 0, and then one that isn't or none
first-at : (f : ℕ → ℕ) (m i n : ℕ) → i + n < m → ((j : ℕ) → j < n → f (i + j) ≡ 0) → (f (i + n) ≡ 0 → ⊥) → i + n ≡ first_one f i (m - i)
first-at f m i n h z one =
    let c : m - (i + n) ≡ suc (m - (i + n + 1)) = omega arith in
    sym (ap (first_one f (i + n)) c ∙ first-here f (i + n) (m - (i + n + 1)) one) ∙ first-skip f m i n (omega arith) z

first_past : (f : ℕ → ℕ) (m i : ℕ) → m ≤ i → i ≡ first_one f i (m - i)
unfolding first_one
first_past f m i h = let z : m - i ≡ 0 = omega arith in rw z

apart : (n : ℕ) → n ≡ 1 → n ≡ 0 → ⊥
apart n e z = omega arith

-- what is left of a limb from bit s on
module _ (limb s : ℕ) (l : s < 64) where
  abbrev bits : ℕ → ℕ
  bits j = limb / 2 ^ j % 2

  left-bit : (j : ℕ) → limb / 2 ^ s / 2 ^ j % 2 ≡ bits (s + j)
  left-bit j = ap (λ y. y % 2) (shr-shr limb s j)

  pub from-none : limb / 2 ^ s ≡ 0 → 64 ≡ first_one bits s (64 - s)
  from-none z =
      let e : s + (64 - s) ≡ 64 = omega arith in
      first_past bits 64 64 (omega arith) ∙ sym (ap (λ k. first_one bits k (64 - k)) e)
      ∙ first-skip bits 64 s (64 - s) (omega arith) (λ j k. sym (left-bit j) ∙ ap (λ y. y / 2 ^ j % 2) z ∙ ap (λ y. y % 2) (zero-div (2 ^ j)))

  pub from_some : limb < 2 ^ 64 → (limb / 2 ^ s ≡ 0 → ⊥) → s + count_trailing_zeros 64 (limb / 2 ^ s) ≡ first_one bits s (64 - s)
  from_some small some =
      let z = count_trailing_zeros 64 (limb / 2 ^ s) in
      let one : bits (s + z) ≡ 1 = sym (left-bit z) ∙ lowest-one 64 (limb / 2 ^ s) (lt_of_le_of_lt (shr_le limb s) small) some in
      first-at bits 64 s z (one_below limb 64 (s + z) small one) (λ j k. sym (left-bit j) ∙ trailing-low 64 (limb / 2 ^ s) j k) (λ q. apart _ one q)

-- what is known of the next one of limbs
pub next_known : (x : List ℕ) (from : ℕ) {r : ℕ} → r ≡ next_one x from → First (limb_coord x) from (64 * carried_limbs) r
next_known x from {r} e =
    let next = first-known (limb_coord x) from (64 * carried_limbs - from) in
    rw e (record { above = next.above; zeros = next.zeros; is_one = λ l. next.is_one (omega arith) })

-- the limb that place i stands in: j is its first one from there on
module _ (x : List ℕ) (i j : ℕ) (h : i < 64 * carried_limbs) (e : j ≡ first_one (λ k. get_or x (i / 64) 0 / 2 ^ k % 2) (i % 64) (64 - i % 64)) where
  found : First (λ k. get_or x (i / 64) 0 / 2 ^ k % 2) (i % 64) (i % 64 + (64 - i % 64)) j
  found = rw e (first-known (λ k. get_or x (i / 64) 0 / 2 ^ k % 2) (i % 64) (64 - i % 64))

  in-limb : (k : ℕ) → i % 64 + k < 64 → limb_coord x (i + k) ≡ get_or x (i / 64) 0 / 2 ^ (i % 64 + k) % 2
  in-limb k l = let p : i + k ≡ i / 64 * 64 + (i % 64 + k) = omega arith in ap (limb_coord x) p ∙ limb-digit x (i / 64) (i % 64 + k) l

  pub next-none : 64 ≤ j → next_one x (i / 64 * 64 + 64) ≡ next_one x i
  next-none n =
      let p : i / 64 * 64 + 64 ≡ i + (64 - i % 64) = omega arith in
      ap (next_one x) p ∙ first-skip (limb_coord x) (64 * carried_limbs) i (64 - i % 64) (omega arith) (λ k l. in-limb k (omega arith) ∙ found.zeros (i % 64 + k) (omega arith) (omega arith))

  pub next-some : j < 64 → i / 64 * 64 + j ≡ next_one x i
  next-some l =
      let above = found.above in
      let p : i / 64 * 64 + j ≡ i + (j - i % 64) = omega arith in
      let q : i % 64 + (j - i % 64) ≡ j = omega arith in
      p ∙ first-at (limb_coord x) (64 * carried_limbs) i (j - i % 64) (omega arith) (λ k l'. in-limb k (omega arith) ∙ found.zeros (i % 64 + k) (omega arith) (omega arith))
      (λ z. found.is_one (omega arith) (sym (in-limb (j - i % 64) (omega arith) ∙ ap (λ k. get_or x (i / 64) 0 / 2 ^ k % 2) q) ∙ z))

-- no place is left
pub next_past : (x : List ℕ) (i : ℕ) → 64 * carried_limbs ≤ i → i ≡ next_one x i
next_past x i h = first_past (limb_coord x) (64 * carried_limbs) i h

-- one more limb
limb-more : (w : ℕ) (f : ℕ → ℕ) → sum ((w + 1) * 64) f ≡ sum (w * 64) f + sum 64 (λ j. f (w * 64 + j))
limb-more w f = let e : (w + 1) * 64 ≡ w * 64 + 64 = omega arith in ap (λ n. sum n f) e ∙ sum-split (w * 64) 64 f

-- the loop over limbs: the ones of those below w
pub record OnesTo (x : List ℕ) (total w : ℕ) : Type 0 where
  pub within : w ≤ carried_limbs
  pub few : total ≤ w * 64
  pub counted : total ≡ sum (w * 64) (limb_coord x)

pub ones_none : (x : List ℕ) → OnesTo x 0 0
unfolding sum
ones_none x = record { within = omega arith; few = omega arith; counted = refl }

module _ {x : List ℕ} {total w : ℕ} (to : OnesTo x total w) where
  pub ones-more : {k : ℕ} → w < carried_limbs → k ≡ sum 64 (λ j. get_or x w 0 / 2 ^ j % 2) → OnesTo x (total + k) (w + 1)
  ones-more {k} h e =
      let c : total + k ≡ sum ((w + 1) * 64) (limb_coord x) = ap₂ ◌+◌ to.counted (e ∙ sum-ext 64 _ _ (λ j l. sym (limb-digit x w j l))) ∙ sym (limb-more w (limb_coord x)) in
      record { within = omega arith; few = omega (arith, c, sum-bits ((w + 1) * 64) (limb_coord x) (limb-lt x)); counted = c }

  pub ones-all : carried_limbs ≤ w → total ≡ sum (64 * carried_limbs) (limb_coord x)
  ones-all h = let e : w * 64 ≡ 64 * carried_limbs = omega (arith, to.within) in to.counted ∙ ap (λ n. sum n (limb_coord x)) e

-- the loop over the limbs of bytes
pub bytes-none : (s : List ℕ) → 0 ≡ sum (0 * 64) (coord s) % 2 ^ 64
unfolding sum
bytes-none s = refl

pub bytes-more : (s : List ℕ) (w : ℕ) {limb total k r : ℕ} → limb ≡ value 64 (λ j. coord s (w * 64 + j)) → k ≡ sum 64 (λ j. limb / 2 ^ j % 2)
    → total ≡ sum (w * 64) (coord s) % 2 ^ 64 → r ≡ (total + k) % 2 ^ 64 → r ≡ sum ((w + 1) * 64) (coord s) % 2 ^ 64
bytes-more s w {limb} {k = k} el ek et er =
    let e : k ≡ sum 64 (λ j. coord s (w * 64 + j)) = ek ∙ sum-ext 64 _ _ (λ j l. ap (λ y. y / 2 ^ j % 2) el ∙ value-bit 64 (λ j. coord s (w * 64 + j)) j l ∙ mod-eq_of_lt (coord-lt s _)) in
    er ∙ ap₂ (λ a b. (a + b) % 2 ^ 64) et e ∙ mod-add-mod (sum (w * 64) (coord s)) (2 ^ 64) (sum 64 (λ j. coord s (w * 64 + j)))
    ∙ ap (λ n. n % 2 ^ 64) (sym (limb-more w (coord s)))

pub bytes-all : (s : List ℕ) (w : ℕ) {total : ℕ} → total ≡ sum (w * 64) (coord s) % 2 ^ 64 → length s ≤ w * 8 → total ≡ sum (8 * length s) (coord s) % 2 ^ 64
bytes-all s w e h = e ∙ ap (λ n. n % 2 ^ 64) (sum-clear (8 * length s) (w * 64) (coord s) (omega arith) (coord-past s))

-- the place of a row
pub row-place : (m d size : ℕ) → d < m → m ≤ max_width → size ≡ (m + 7) / 8 → d * size ≤ max_width * carried_bytes
row-place m d size h l e = mul-le-mul {n₁ = d} {m₁ = size} {n₂ = max_width} {m₂ = carried_bytes} (omega arith) (omega arith)

-- a part of a list, as far as the list goes
part-least : (t : List ℕ) (from size : ℕ) {start end : ℕ} → start ≡ min from (length t) → end ≡ min (start + size) (length t)
    → take (end - start) (drop start t) ≡ take size (drop from t)
part-least t from size {start} {end} es ee = elim (dec_lt from (length t)) [
  | yes h ↦
      let s : start ≡ from = omega arith in
      rw s (elim (dec_lt (length t) (from + size)) [
        | yes l ↦ take_all (end - from) (drop from t) (omega (arith, min, length-drop from t)) ∙ sym (take_all size (drop from t) (omega (arith, min, length-drop from t)))
        | no l ↦ let k : end - from ≡ size = omega arith in ap (λ n. take n (drop from t)) k
      ])
  | no h ↦ ap (take (end - start)) (drop_of_length-le t {i = start} (omega arith)) ∙ take-nil (end - start) ∙ sym (ap (take size) (drop_of_length-le t {i = from} (omega arith)) ∙ take-nil size)
]

-- row d of a table
module _ (m : ℕ) (t : List ℕ) (d : ℕ) where
  pub row-none : m ≤ d → replicate carried_limbs 0 ≡ row_limbs m t d
  unfolding row_limbs
  row-none h = rw (le-ltb d m h) (limbs-zero carried_limbs (λ i. 0) (λ i l. refl))

  pub row-wide : d < m → max_width < m → replicate carried_limbs 0 ≡ row_limbs m t d
  unfolding row_limbs
  row-wide h l = rw (lt-ltb d m h, lt-leb m max_width l) (limbs-zero carried_limbs (λ i. 0) (λ i l. refl))

  module _ (h : d < m) (l : m ≤ max_width) where
    pub row-limbs : row_limbs m t d ≡ pack_limbs carried_limbs (coord (row m t d))
    unfolding row_limbs
    row-limbs = rw (lt-ltb d m h, le-leb m max_width l)

    pub row-some : {size start end : ℕ} {x : List ℕ} → size ≡ bytes_for m → start ≡ min (d * size) (length t) → end ≡ min (start + size) (length t)
        → x ≡ pack_limbs carried_limbs (coord (take (end - start) (drop start t))) → x ≡ row_limbs m t d
    unfolding row
    row-some {size} e es ee ex = ex ∙ ap (λ s. pack_limbs carried_limbs (coord s)) (part-least t (d * size) size es ee ∙ ap (λ k. take k (drop (d * k) t)) e) ∙ sym row-limbs

-- the logarithm rounded down is the only number with these bounds
pub log2-only : (n r : ℕ) → 2 ^ r ≤ n → n < 2 * 2 ^ r → r ≡ log2 n
log2-only n r low high = elim (dec_lt r (log2 n)) [
  | yes h ↦ absurd (omega (arith, low, high, two, least.0, pow_mono {i = r + 1} {j = log2 n} (omega arith)))
  | no h ↦ elim (dec_lt (log2 n) r) [
    | yes k ↦ absurd (omega (arith, low, least.1, pow_mono {i = log2 n + 1} {j = r} (omega arith)))
    | no k ↦ omega arith
  ]
]
  where
    least : (2 ^ log2 n ≤ n) × (n < 2 ^ (log2 n + 1))
    least = log2-bounds n (omega (arith, low, pow_pos r))

    two : 2 ^ (r + 1) ≡ 2 * 2 ^ r
    two = pow-add 2 r 1 ∙ mul_comm (2 ^ r) 2
