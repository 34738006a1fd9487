-- Laws of the squares: their bits in limbs, one product, a sum of two, and one gate's square more.
use mathlib.Core.Path.{◌≡◌, refl, sym, ap, ap₂, ◌∙◌}
use mathlib.Core.Logic.{inl, inr}
use mathlib.Core.List.{List}
use Prim.Native.Nat.{ℕ, ◌+◌, ◌-◌, ◌*◌, ◌/◌, ◌%◌, ◌^◌, ◌<◌, ◌≤◌}
use native.Mathlib.Nat.{zero-div}
use native.Mathlib.Decide.{ℕ_discrete}
use native.Mathlib.Omega.{arith}
use lib.Dec.{eqb}
use lib.Bits.{bit_xor}
use lib.ListN.{length, get_or, set, replicate}
use lib.Seq.{get_or-set_same, get_or-set_other}
use borrow.Author.Tests.{eq-eqb, ne_eqb, lt-ltb, le-ltb}
use Rattle.gf2.specs.Operands.{choose}
use Rattle.gf2.proofs.Coordinates.{xor-bit, one_bit, zero-at}
use Rattle.limbs.specs.Limbs.{limb_coord}
use Rattle.netlist.specs.Running.{kind_at, left_at, right_at, gate_count, read_list}
use Rattle.netlist.specs.Judgements.{IsA, IsB, InForm}
use Rattle.netlist.specs.Sets.{Products, one_product, set_on}
use Rattle.netlist.proofs.SetLaws.{one-comm, gate-set-and, gate-set-xor}
use Rattle.equivalence.specs.Causes.{most_width, most_gates}
use Rattle.equivalence.specs.Inner.{set_bits, set_limbs, place_of, bit_at, Ready, Gathered, SumPut}

-- limbs for the squares of all gates
abbrev pub HasSets : List ℕ → Type 0
HasSets sets = length sets ≡ most_gates * set_limbs

-- the bit of ai·bj is one of its limb's
pub bit-limb : (s : List ℕ) (k i j : ℕ) → bit_at s k i j ≡ get_or s (set_limbs * k + (most_width * i + j) / 64) 0 / 2 ^ ((most_width * i + j) % 64) % 2
unfolding limb_coord
bit-limb s k i j =
    let q : (set_bits * k + (most_width * i + j)) / 64 ≡ set_limbs * k + (most_width * i + j) / 64 = omega arith in
    let r : (set_bits * k + (most_width * i + j)) % 64 ≡ (most_width * i + j) % 64 = omega arith in
    rw (q, r)

-- one bit in a square that was clear
bit-put : (s : List ℕ) (k at c : ℕ) → set_limbs * k + at / 64 < length s → get_or s (set_limbs * k + c / 64) 0 ≡ 0 →
    get_or (set s (set_limbs * k + at / 64) (1 * 2 ^ (at % 64) % 2 ^ 64)) (set_limbs * k + c / 64) 0 / 2 ^ (c % 64) % 2 ≡ choose (eqb c at) 1 0
bit-put s k at c h z = elim (ℕ_discrete (c / 64) (at / 64)) [
  | yes e ↦ rw (e, get_or-set_same s (set_limbs * k + at / 64) (1 * 2 ^ (at % 64) % 2 ^ 64) 0 h)
      (one_bit 64 (at % 64) (c % 64) (omega arith) ∙ ap (λ b. choose b 1 0) (same e))
  | no ne ↦ rw (ne_eqb c at (λ q. ne (ap (λ x. x / 64) q)), get_or-set_other s (set_limbs * k + at / 64) (set_limbs * k + c / 64) (1 * 2 ^ (at % 64) % 2 ^ 64) 0 (omega arith), z, zero-div)
]
  where
    same : c / 64 ≡ at / 64 → eqb (c % 64) (at % 64) ≡ eqb c at
    same e = elim (ℕ_discrete c at) [
      | yes q ↦ rw (q, eq-eqb at at refl) (eq-eqb (at % 64) (at % 64) refl)
      | no n ↦ rw (ne_eqb c at n) (ne_eqb (c % 64) (at % 64) (λ q. n (omega arith)))
    ]

-- a sum, limb by limb
pub sum-none : {k x y : ℕ} {s : List ℕ} → SumPut 0 k x y s s
sum-none = record { sums = λ w h. absurd (omega arith); front = λ p h. refl; rest = λ p h. refl }

pub sum_more : {n k x y : ℕ} {s t : List ℕ} → HasSets t → k < most_gates → x < k → y < k → n < set_limbs → SumPut n k x y s t →
    SumPut (n + 1) k x y s (set t (set_limbs * k + n) (bit_xor (get_or t (set_limbs * x + n) 0) (get_or t (set_limbs * y + n) 0)))
sum_more {n} {k} {x} {y} {s} {t} room lk lx ly ln put = record {
  sums = λ w h. elim (ℕ_discrete w n) [
    | yes e ↦ rw e (get_or-set_same t (set_limbs * k + n) _ 0 (omega (arith, room))
        ∙ ap₂ bit_xor (put.front (set_limbs * x + n) (omega arith)) (put.front (set_limbs * y + n) (omega arith)))
    | no ne ↦ get_or-set_other t (set_limbs * k + n) (set_limbs * k + w) _ 0 (omega arith) ∙ put.sums w (omega arith)
  ];
  front = λ p h. get_or-set_other t (set_limbs * k + n) p _ 0 (omega arith) ∙ put.front p h;
  rest = λ p h. get_or-set_other t (set_limbs * k + n) p _ 0 (omega arith) ∙ put.rest p (omega arith);
}

-- no bit is set before anything is gathered
abbrev pub clear : List ℕ
clear = replicate (most_gates * set_limbs) 0

pub gathered_none : (m : ℕ) (list : List ℕ) → Gathered m list 0 clear
gathered_none m list = record {
  bits = λ l i j h. absurd (omega arith);
  rest = λ p h. zero-at (most_gates * set_limbs) p;
}

-- where the product of an AND of these wires has its bit
pair_place : (m a b i j : ℕ) → m ≤ most_width → IsA m a → IsB m b → i < most_width → j < most_width →
    choose (eqb (most_width * i + j) (most_width * a + (b - m))) 1 0 ≡ one_product m a b i j
unfolding one_product
pair_place m a b i j narrow la lb li lj = rw (ne_eqb a (m + j) (omega arith)) (elim (ℕ_discrete i a) [
  | yes e ↦ rw (e, eq-eqb a a refl) (elim (ℕ_discrete (m + j) b) [
    | yes f ↦ rw (eq-eqb (most_width * a + j) (most_width * a + (b - m)) (omega arith), eq-eqb b (m + j) (sym f))
    | no nf ↦ rw (ne_eqb (most_width * a + j) (most_width * a + (b - m)) (omega arith), ne_eqb b (m + j) (omega arith))
  ])
  | no ne ↦ rw (ne_eqb (most_width * i + j) (most_width * a + (b - m)) (omega arith), ne_eqb a i (omega arith))
])

pub place-one : (m l r i j : ℕ) → m ≤ most_width → InForm m 0 l r → i < most_width → j < most_width →
    choose (eqb (most_width * i + j) (place_of m l r)) 1 0 ≡ one_product m l r i j
place-one m l r i j narrow (inl f) li lj = rw (lt-ltb l m f.0) (pair_place m l r i j narrow f.0 f.1 li lj)
place-one m l r i j narrow (inr f) li lj = rw (le-ltb l m f.0.0) (pair_place m r l i j narrow f.1 f.0 li lj ∙ one-comm m r l i j)

-- the other wire of an AND, where the left one is of a, and where it isn't
pub pair_left : {m l r : ℕ} → InForm m 0 l r → l < m → (m ≤ r) × (r < 2 * m)
pair_left (inl f) h = f.1
pair_left (inr f) h = absurd (omega (arith, f.0.0, h))

pub pair-right : {m l r : ℕ} → InForm m 0 l r → m ≤ l → (r < m) × (l < 2 * m)
pair-right (inl f) h = absurd (omega (arith, f.0, h))
pair-right (inr f) h = (f.1, f.0.1)

pub place-small : (m l r : ℕ) → m ≤ most_width → InForm m 0 l r → place_of m l r < set_bits
place-small m l r narrow (inl f) = rw (lt-ltb l m f.0) (omega (arith, f.0, f.1))
place-small m l r narrow (inr f) = rw (le-ltb l m f.0.0) (omega (arith, f.0, f.1))

-- one gate's square more
module _ (m : ℕ) (list : List ℕ) (ready : Ready m list) (k : ℕ) (lk : k < gate_count list) {s : List ℕ} (g : Gathered m list k s) where
  -- the squares before it are kept, where their limbs are
  kept : (t : List ℕ) → ((p : ℕ) → p < set_limbs * k → get_or t p 0 ≡ get_or s p 0) → (l i j : ℕ) → l < k → i < most_width → j < most_width →
      bit_at t l i j ≡ set_on m (read_list list m) (2 * m + l) i j
  kept t h l i j ll li lj =
      bit-limb t l i j ∙ ap (λ x. x / 2 ^ ((most_width * i + j) % 64) % 2) (h (set_limbs * l + (most_width * i + j) / 64) (omega arith))
      ∙ sym (bit-limb s l i j) ∙ g.bits l i j ll li lj

  pub product-gathered : HasSets s → kind_at list k ≡ 0 → InForm m 0 (left_at list k) (right_at list k) → (at : ℕ) → at ≡ place_of m (left_at list k) (right_at list k) → at < set_bits →
      Gathered m list (k + 1) (set s (set_limbs * k + at / 64) (1 * 2 ^ (at % 64) % 2 ^ 64))
  product-gathered room e f at q small = record {
    bits = λ l i j h li lj. elim (ℕ_discrete l k) [
      | yes y ↦ rw y (here i j li lj)
      | no n ↦ kept _ (λ p o. get_or-set_other s (set_limbs * k + at / 64) p _ 0 (omega arith)) l i j (omega arith) li lj
    ];
    rest = λ p h. get_or-set_other s (set_limbs * k + at / 64) p _ 0 (omega arith) ∙ g.rest p (omega arith);
  }
    where
      here : (i j : ℕ) → i < most_width → j < most_width →
          bit_at (set s (set_limbs * k + at / 64) (1 * 2 ^ (at % 64) % 2 ^ 64)) k i j ≡ set_on m (read_list list m) (2 * m + k) i j
      here i j li lj =
          bit-limb (set s (set_limbs * k + at / 64) (1 * 2 ^ (at % 64) % 2 ^ 64)) k i j
          ∙ bit-put s k at (most_width * i + j) (omega (arith, room, ready.few)) (g.rest (set_limbs * k + (most_width * i + j) / 64) (omega arith))
          ∙ ap (λ a. choose (eqb (most_width * i + j) a) 1 0) q ∙ place-one m (left_at list k) (right_at list k) i j ready.narrow f li lj
          ∙ sym (ap (λ (t : Products). t i j) (gate-set-and m list k lk e))

  pub sum-gathered : (kind_at list k ≡ 0 → ⊥) → 2 * m ≤ left_at list k → 2 * m ≤ right_at list k →
      (left_at list k - 2 * m < k) → (right_at list k - 2 * m < k) → {t : List ℕ} → SumPut set_limbs k (left_at list k - 2 * m) (right_at list k - 2 * m) s t → Gathered m list (k + 1) t
  sum-gathered n hl hr ll lr {t} put = record {
    bits = λ l i j h li lj. elim (ℕ_discrete l k) [
      | yes y ↦ rw y (here i j li lj)
      | no x ↦ kept t put.front l i j (omega arith) li lj
    ];
    rest = λ p h. put.rest p (omega arith) ∙ g.rest p (omega arith);
  }
    where
      x : ℕ
      x = left_at list k - 2 * m

      y : ℕ
      y = right_at list k - 2 * m

      -- the bit of an earlier gate
      earlier : (w i j : ℕ) → 2 * m ≤ w → w - 2 * m < k → i < most_width → j < most_width →
          get_or s (set_limbs * (w - 2 * m) + (most_width * i + j) / 64) 0 / 2 ^ ((most_width * i + j) % 64) % 2 ≡ set_on m (read_list list m) w i j
      earlier w i j hw lw li lj =
          let e : 2 * m + (w - 2 * m) ≡ w = omega arith in
          sym (bit-limb s (w - 2 * m) i j) ∙ g.bits (w - 2 * m) i j lw li lj ∙ ap (λ v. set_on m (read_list list m) v i j) e

      here : (i j : ℕ) → i < most_width → j < most_width → bit_at t k i j ≡ set_on m (read_list list m) (2 * m + k) i j
      here i j li lj =
          let c = most_width * i + j in
          bit-limb t k i j ∙ ap (λ z. z / 2 ^ (c % 64) % 2) (put.sums (c / 64) (omega arith))
          ∙ xor-bit (get_or s (set_limbs * x + c / 64) 0) (get_or s (set_limbs * y + c / 64) 0) (c % 64)
          ∙ ap₂ (λ a b. (a + b) % 2) (earlier (left_at list k) i j hl ll li lj) (earlier (right_at list k) i j hr lr li lj)
          ∙ sym (gate-set-xor m list ready.gates k lk n i j)
