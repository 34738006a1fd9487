-- What the kernels on limbs make.
-- Limb by limb: the limbs of given coordinates, of which a width's are kept, and products.
-- Slots: limbs added at one slot, one after another. What is seen from a coordinate on, and what a row meets there.
use mathlib.Core.Path.{◌≡◌, refl, sym, ap, ap₂, ◌∙◌}
use mathlib.Core.Bool.{Bool, true, false, ◌&&◌}
use mathlib.Core.List.{List}
use Prim.Native.Nat.{ℕ, zero, suc, ◌+◌, ◌-◌, ◌*◌, ◌/◌, ◌%◌, ◌^◌, ◌<◌, ◌≤◌}
use native.Mathlib.Nat.{add-zero, mul-add}
use native.Mathlib.Decide.{dec_lt, ℕ_discrete}
use native.Mathlib.Omega.{arith}
use lib.ListN.{length, get_or, set, length-set, replicate}
use lib.Seq.{get_or-set_same, get_or-set_other}
use lib.Dec.{eqb}
use lib.Bits.{bit_and, and_lt, bit_xor}
use borrow.Author.Tests.{eq-eqb, ne_eqb, lt-ltb, le-ltb}
use Rattle.gf2.specs.Coordinates.{value, tabulate}
use Rattle.gf2.specs.Operands.{choose, below}
use Rattle.gf2.proofs.Coordinates.{and-bit, xor-bit, value-ext, value-eq, value-bit, value-lt, value-xor, tabulate-ext}
use Rattle.gf2.proofs.Operands.{below_in, below_out}
use Rattle.limbs.specs.Limbs.{carried_limbs, reach, limb_coord, pack_limbs, raised}
use Rattle.limbs.proofs.LimbCoords.{limb-lt, limb-digit, limbs-zero}
use Rattle.limbs.proofs.LimbLoops.{limb_for, limb-for, limb-value, Limbs, pair-coord}
use Rattle.limbs.proofs.RaisedLimbs.{limb_of, pair_from, raised-in, raised-out}
use Rattle.scatter.specs.Cells.{slots, twice_limbs, HasSlots, has_slots, cell, Added, kept_from, is_long, seen_from, met_at}

-- a limb masked by one that is given by its bits
masked-value : (x : ℕ) (f : ℕ → ℕ) → x < 2 ^ 64 → bit_and x (value 64 f) ≡ value 64 (λ j. x / 2 ^ j % 2 * f j)
masked-value x f small = value-eq 64 _ _ (and_lt 64 x (value 64 f) small (value-lt 64 f)) (λ j l.
    and-bit x (value 64 f) j ∙ ap (λ y. x / 2 ^ j % 2 * y) (value-bit 64 f j l) ∙ bit-mul (x / 2 ^ j % 2) (f j) (omega arith))
  where
    bit-mul : (x y : ℕ) → x < 2 → x * (y % 2) ≡ x * y % 2
    bit-mul zero y h = omega arith
    bit-mul (suc zero) y h = omega arith
    bit-mul (suc (suc x)) y h = absurd (omega arith)

pub masked-limbs : (n : ℕ) (x y : List ℕ) → Limbs x → Limbs y → tabulate n (λ w. bit_and (get_or x w 0) (get_or y w 0)) ≡ pack_limbs n (λ i. limb_coord x i * limb_coord y i)
unfolding pack_limbs
masked-limbs n x y sx sy = tabulate-ext n _ _ (λ w h. ap (bit_and (get_or x w 0)) (limb-value y w (sy w)) ∙ masked-value (get_or x w 0) _ (sx w)
    ∙ limb-for (λ i. limb_coord x i * limb_coord y i) w _ (λ j l. ap (λ z. z * limb_coord y (w * 64 + j)) (sym (limb-digit x w j l))))

-- one limb changed
set-coord : (g : List ℕ) (p x k : ℕ) → p < length g →
    limb_coord (set g p (bit_xor (get_or g p 0) x)) k ≡ (limb_coord g k + choose (eqb (k / 64) p) (x / 2 ^ (k % 64) % 2) 0) % 2
unfolding limb_coord
set-coord g p x k h = elim (ℕ_discrete (k / 64) p) [
  | yes e ↦ rw (eq-eqb (k / 64) p e, e, get_or-set_same g p (bit_xor (get_or g p 0) x) 0 h) (xor-bit (get_or g p 0) x (k % 64))
  | no n ↦ rw (ne_eqb (k / 64) p n, get_or-set_other g p (k / 64) (bit_xor (get_or g p 0) x) 0 n) (omega arith)
]

-- nothing added, one thing after another, and the same in other words
pub added_none : (f : ℕ → ℕ → ℕ) (g : List ℕ) → ((r i : ℕ) → f r i ≡ 0) → Added f g g
added_none f g z = record { size = refl; coords = λ r i h l. omega (arith, z r i, limb-lt g (r * (64 * twice_limbs) + i)) }

sum_more : (x y z f h k : ℕ) → y ≡ (x + f) % 2 → z ≡ (y + h) % 2 → (f + h) % 2 ≡ k % 2 → z ≡ (x + k) % 2
sum_more x y z f h k p q e = omega arith

pub added_more : (f h k : ℕ → ℕ → ℕ) {a b c : List ℕ} → Added f a b → Added h b c
    → ((r i : ℕ) → r < slots → i < 64 * twice_limbs → (f r i + h r i) % 2 ≡ k r i % 2) → Added k a c
added_more f h k p q same = record {
  size = q.size ∙ p.size;
  coords = λ r i b l. sum_more _ _ _ _ _ _ (p.coords r i b l) (q.coords r i b l) (same r i b l);
}

pub added-same : (f k : ℕ → ℕ → ℕ) {a b : List ℕ} → Added f a b → ((r i : ℕ) → r < slots → i < 64 * twice_limbs → f r i % 2 ≡ k r i % 2) → Added k a b
added-same f k p same = record { size = p.size; coords = λ r i b l. omega (arith, p.coords r i b l, same r i b l) }

-- limb p of a slot changed
set-added : (g : List ℕ) (r p x : ℕ) → r < slots → p < twice_limbs → HasSlots g → (at : ℕ) → at ≡ r * twice_limbs + p
    → Added (λ t i. choose (eqb t r) 1 0 * choose (eqb (i / 64) p) (x / 2 ^ (i % 64) % 2) 0) g (set g at (bit_xor (get_or g at 0) x))
set-added g r p x h l size at e = record {
  size = length-set g at _;
  coords = λ t i b k. set-coord g at x (t * (64 * twice_limbs) + i) (omega arith) ∙ ap (λ y. (cell g t i + y) % 2) (here t i k);
}
  where
    here : (t i : ℕ) → i < 64 * twice_limbs → choose (eqb ((t * (64 * twice_limbs) + i) / 64) at) (x / 2 ^ ((t * (64 * twice_limbs) + i) % 64) % 2) 0
        ≡ choose (eqb t r) 1 0 * choose (eqb (i / 64) p) (x / 2 ^ (i % 64) % 2) 0
    here t i b = elim (ℕ_discrete t r) [
      | yes q ↦ elim (ℕ_discrete (i / 64) p) [
        | yes s ↦ let z : (t * (64 * twice_limbs) + i) % 64 ≡ i % 64 = omega arith in
            rw (eq-eqb t r q, eq-eqb (i / 64) p s, eq-eqb ((t * (64 * twice_limbs) + i) / 64) at (omega arith), z) (omega arith)
        | no s ↦ rw (eq-eqb t r q, ne_eqb (i / 64) p s, ne_eqb ((t * (64 * twice_limbs) + i) / 64) at (λ z. s (omega arith)))
      ]
      | no q ↦ rw (ne_eqb t r q, ne_eqb ((t * (64 * twice_limbs) + i) / 64) at (λ z. q (omega arith))) (omega arith)
    ]

-- the first w limbs of e at slot r, from limb q on
abbrev pub at_slot : ℕ → ℕ → List ℕ → ℕ → ℕ → ℕ → ℕ
at_slot r q e w t i = choose (eqb t r) 1 0 * raised (q * 64) (below (64 * w) (limb_coord e)) i

module _ (r q : ℕ) (e : List ℕ) where
  pub slot-none : (g : List ℕ) → Added (at_slot r q e 0) g g
  slot-none g = added_none (at_slot r q e 0) g (λ t i. ap (λ y. choose (eqb t r) 1 0 * y) (none i) ∙ omega arith)
    where
      none : (i : ℕ) → raised (q * 64) (below (64 * 0) (limb_coord e)) i ≡ 0
      none i = elim (dec_lt i (q * 64)) [
        | yes h ↦ raised-out (q * 64) (below (64 * 0) (limb_coord e)) i h
        | no h ↦ raised-in (q * 64) (below (64 * 0) (limb_coord e)) i (omega arith) ∙ below_out (64 * 0) (limb_coord e) (i - q * 64) (omega arith)
      ]

  -- one limb more
  limb-more : (w i : ℕ) → raised (q * 64) (below (64 * w) (limb_coord e)) i + choose (eqb (i / 64) (q + w)) (get_or e w 0 / 2 ^ (i % 64) % 2) 0
      ≡ raised (q * 64) (below (64 * (w + 1)) (limb_coord e)) i
  limb-more w i = elim (dec_lt i (q * 64)) [
    | yes h ↦ rw (raised-out (q * 64) (below (64 * w) (limb_coord e)) i h, raised-out (q * 64) (below (64 * (w + 1)) (limb_coord e)) i h, ne_eqb (i / 64) (q + w) (λ z. omega arith))
    | no h ↦ rw (raised-in (q * 64) (below (64 * w) (limb_coord e)) i (omega arith), raised-in (q * 64) (below (64 * (w + 1)) (limb_coord e)) i (omega arith)) (elim (ℕ_discrete (i / 64) (q + w)) [
      | yes s ↦
          let place : w * 64 + i % 64 ≡ i - q * 64 = omega arith in
          rw (eq-eqb (i / 64) (q + w) s, below_out (64 * w) (limb_coord e) (i - q * 64) (omega arith), below_in (64 * (w + 1)) (limb_coord e) (i - q * 64) (omega arith))
          (omega (arith, limb-digit e w (i % 64) (omega arith), ap (limb_coord e) place))
      | no s ↦ rw (ne_eqb (i / 64) (q + w) s) (elim (dec_lt (i - q * 64) (64 * w)) [
        | yes k ↦ rw (below_in (64 * w) (limb_coord e) (i - q * 64) k, below_in (64 * (w + 1)) (limb_coord e) (i - q * 64) (omega arith)) (omega arith)
        | no k ↦ rw (below_out (64 * w) (limb_coord e) (i - q * 64) (omega arith), below_out (64 * (w + 1)) (limb_coord e) (i - q * 64) (omega arith))
      ])
    ])
  ]

  pub slot-more : (w at : ℕ) {g₀ g : List ℕ} → Added (at_slot r q e w) g₀ g → HasSlots g₀ → r < slots → q + w < twice_limbs → at ≡ r * twice_limbs + (q + w)
      → Added (at_slot r q e (w + 1)) g₀ (set g at (bit_xor (get_or g at 0) (get_or e w 0)))
  slot-more w at {g₀} {g} p size h l place = added_more _ _ _ p (set-added g r (q + w) (get_or e w 0) h l (p.size ∙ size) at place)
      (λ t i b k. ap (λ y. y % 2) (sym (mul-add (choose (eqb t r) 1 0) _ _) ∙ ap (λ y. choose (eqb t r) 1 0 * y) (limb-more w i)))

  pub slot-all : (m : ℕ) {w : ℕ} {g₀ g : List ℕ} → w ≡ reach m → Added (at_slot r q e w) g₀ g → Added (λ t i. choose (eqb t r) 1 0 * kept_from m q e i) g₀ g
  slot-all m z p = added-same _ _ p (λ t i b l. ap (λ k. at_slot r q e k t i % 2) z)

-- where all slots are there, and where not
module _ (g : List ℕ) where
  pub slots-there : HasSlots g → has_slots g ≡ true
  slots-there h = eq-eqb (length g) (slots * twice_limbs) h

  pub slots-missing : (HasSlots g → ⊥) → has_slots g ≡ false
  slots-missing h = ne_eqb (length g) (slots * twice_limbs) h

-- where limbs go on, and where not
module _ (at : ℕ) (x : List ℕ) where
  pub long-enough : at / 64 + carried_limbs < length x → is_long at x ≡ true
  long-enough h = lt-ltb (at / 64 + carried_limbs) (length x) h

  pub too_short_lem : length x ≤ at / 64 + carried_limbs → is_long at x ≡ false
  too_short_lem h = le-ltb (at / 64 + carried_limbs) (length x) h

-- limb w and the next, from a bit on
pub seen-limb : (x : List ℕ) (w at : ℕ) → pair_from (at % 64) (limb_of x w) (limb_of x (w + 1)) ≡ value 64 (λ j. limb_coord x (w * 64 + at % 64 + j))
seen-limb x w at = value-ext 64 _ _ (λ j l. ap (λ y. y % 2) (pair-coord x w (at % 64 + j) (omega arith) ∙ ap (limb_coord x) (omega arith)))

pub seen_more : (at : ℕ) (x : List ℕ) (w : ℕ) → value 64 (λ j. limb_coord x ((at / 64 + w) * 64 + at % 64 + j)) ≡ limb_for (λ i. limb_coord x (at + i)) w
seen_more at x w = limb-for (λ i. limb_coord x (at + i)) w _ (λ j l. ap (limb_coord x) (omega arith))

-- what is seen of limbs from a coordinate on
module _ (m at : ℕ) (x : List ℕ) where
  pub seen_at : at / 64 + carried_limbs < length x → (i : ℕ) → i < 64 * reach m → seen_from m x at i ≡ limb_coord x (at + i)
  seen_at h i l = below_in (64 * reach m) _ i l ∙ ap (λ b. choose b (limb_coord x (at + i)) 0) (long-enough at x h)

  pub seen_all : (n : ℕ) → at / 64 + carried_limbs < length x → pack_limbs n (below (64 * reach m) (λ i. limb_coord x (at + i))) ≡ pack_limbs n (seen_from m x at)
  seen_all n h = ap (λ b. pack_limbs n (below (64 * reach m) (λ i. choose b (limb_coord x (at + i)) 0))) (sym (long-enough at x h))

-- where not all limbs are there, nothing is kept
pub none_kept : (n m : ℕ) {b : Bool} (f : ℕ → ℕ) → b ≡ false → replicate n 0 ≡ pack_limbs n (below m (λ i. choose b (f i) 0))
none_kept n m f e = limbs-zero n _ (λ i l. ap (λ t. below m (λ k. choose t (f k) 0) i % 2) e ∙ ap (λ y. y % 2) (none i))
  where
    none : (i : ℕ) → below m (λ k. 0) i ≡ 0
    none i = elim (dec_lt i m) [
      | yes h ↦ below_in m (λ k. 0) i h
      | no h ↦ below_out m (λ k. 0) i (omega arith)
    ]

-- a limb of what a row meets, one way round and both
pub met-once : {once : Bool} {x s : ℕ} (f g : ℕ → ℕ) → once ≡ true → x < 2 ^ 64 → s ≡ value 64 f → bit_and x s ≡ value 64 (λ j. x / 2 ^ j % 2 * f j + choose once 0 (g j))
met-once {once} {x} f g e small p = ap (bit_and x) p ∙ masked-value x f small
    ∙ value-ext 64 _ _ (λ j l. ap (λ y. y % 2) (sym (ap (λ b. x / 2 ^ j % 2 * f j + choose b 0 (g j)) e ∙ add-zero _)))

pub met-both : {once : Bool} {x y s t : ℕ} (f g : ℕ → ℕ) → once ≡ false → x < 2 ^ 64 → y < 2 ^ 64 → s ≡ value 64 f → t ≡ value 64 g
    → bit_xor (bit_and x s) (bit_and y t) ≡ value 64 (λ j. x / 2 ^ j % 2 * f j + choose once 0 (y / 2 ^ j % 2 * g j))
met-both {once} {x} {y} f g e sx sy p q = ap₂ bit_xor (ap (bit_and x) p ∙ masked-value x f sx) (ap (bit_and y) q ∙ masked-value y g sy) ∙ value-xor 64 _ _
    ∙ ap (λ b. value 64 (λ j. x / 2 ^ j % 2 * f j + choose b 0 (y / 2 ^ j % 2 * g j))) (sym e)

-- and all limbs
module _ (once : Bool) (d : ℕ) (x y xx yy : List ℕ) where
  abbrev pub pairs : ℕ → ℕ
  pairs i = limb_coord x i * limb_coord yy (d + i) + choose once 0 (limb_coord y i * limb_coord xx (d + i))

  pub met-limb : (w : ℕ) {limb : ℕ} → limb ≡ value 64 (λ j. get_or x w 0 / 2 ^ j % 2 * limb_coord yy ((d / 64 + w) * 64 + d % 64 + j)
      + choose once 0 (get_or y w 0 / 2 ^ j % 2 * limb_coord xx ((d / 64 + w) * 64 + d % 64 + j))) → limb ≡ limb_for pairs w
  met-limb w e = e ∙ limb-for pairs w _ (λ j l.
      let place : (d / 64 + w) * 64 + d % 64 + j ≡ d + (w * 64 + j) = omega arith in
      rw (place, limb-digit x w j l, limb-digit y w j l))

  pub met_all : (n m : ℕ) → d / 64 + carried_limbs < length xx → d / 64 + carried_limbs < length yy
      → pack_limbs n (below (64 * reach m) pairs) ≡ pack_limbs n (met_at once m d x y xx yy)
  met_all n m h l = ap (λ b. pack_limbs n (below (64 * reach m) (λ i. choose b (pairs i) 0))) (sym (ap₂ ◌&&◌ (long-enough d xx h) (long-enough d yy l)))
