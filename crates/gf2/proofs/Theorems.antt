-- The proofs of Statements, each by the theorem of that name over vectors.
-- theorem_a, theorem_h, theorem_b, theorem_c, theorem_i, theorem_f, theorem_d, theorem_e, theorem_g.
use mathlib.Core.Path.{◌≡◌, sym, ◌∙◌, ap, ap₂}
use mathlib.Core.Bool.{true}
use mathlib.Core.List.{List}
use Prim.Native.Nat.{ℕ, zero, suc, ◌-◌, ◌*◌, ◌^◌, ◌<◌, ◌≤◌}
use native.Mathlib.Omega.{arith}
use Rattle.gf2.specs.Sums.{sum}
use Rattle.gf2.specs.Coordinates.{coord}
use Rattle.gf2.specs.Operands.{bytes_for, IsOperand}
use Rattle.gf2.specs.Tables.{IsTable, row, pair_product, ones_in}
use Rattle.gf2.specs.Products.{product}
use Rattle.gf2.specs.Check.{Accepted}
use Rattle.gf2.specs.Inverse.{inverse}
use Rattle.gf2.specs.Statements.{TheoremA, TheoremH, TheoremB, GivesInverse, TheoremC, TheoremI, TheoremD, TheoremE, CountsPairs, TheoremF, TheoremG, pairs_with, pairs_below, pairs_above}
use Rattle.gf2.proofs.Monoid.{nats, big, big-ext, sum-big}
use Rattle.gf2.proofs.Parity.{bit, bit_inj}
use Rattle.gf2.proofs.Index.{Ix, ix-path, at, at-num, num-at, num-minus}
use Rattle.gf2.proofs.IndexSums.{Σ-ext, sum-Σ}
use Rattle.gf2.proofs.Vector.{Vec, turn}
use Rattle.gf2.proofs.VectorProduct.{pair}
use Rattle.gf2.proofs.VectorField.{Laws, field, field-unit, rule7 as rule7ᵛ, laws-field, rule6-first, rows-differ, t, t-inverse, t-turn-pow, t-unique}
use Rattle.gf2.proofs.VectorCounts.{ones_of, half_pairs, count-pairs, diagonal-pair, count-swap, count-half, count-least}
use Rattle.gf2.proofs.OperandVectors.{bit-coord, bytes_fit, vec, bytes, operand-vec, zeroes-vec, ones-vec, bytes-inj}
use Rattle.gf2.proofs.TableVectors.{rows, row-vec, pair-odd, product-vec, product-bytes, reduced-vec, distance-vec, symmetric, rule6, rule7}
use Rattle.gf2.proofs.FieldVectors.{laws, from-unit, from_field, from-squares, to-field, to-squares}
use Rattle.gf2.proofs.Logarithm.{log2-bounds}
use Rattle.gf2.proofs.Chain.{products-made, inverse-vec, power-vec}

pub theorem_a : TheoremA
theorem_a zero table two is = absurd (omega arith)
theorem_a (suc p) table two is = (
  λ k. let h = (laws-field (rows p table)).0 ((laws p table is two).0 k) in (from_field p table is h.0, from-squares p table is h.1),
  λ h. (laws p table is two).1 ((laws-field (rows p table)).1 (to-field p table is h.0, to-squares p table is h.1)),
)

pub theorem_h : TheoremH
theorem_h zero table two is k = absurd (omega arith)
theorem_h (suc p) table two is k =
    let c = (laws p table is two).0 k in
    rw (ones-vec p (bytes_for (suc p)), ← field-unit (rows p table) c) (from-unit p table is (field (rows p table) c))

module _ (n p : ℕ) (table : List ℕ) (two : 1 < suc p) (fits : suc p ≤ 8 * n) (is : IsTable (suc p) table) (c : Laws (rows p table)) where
  -- of the operand with the vector v
  inverses : (v : Vec p) → GivesInverse n (suc p) table (bytes p n v)
  inverses v = record {
    is_power = found ∙ ap (bytes p n) (t-turn-pow T c v) ∙ sym (power-vec p table is c n fits v (2 ^ suc p - 2));
    is_inverse = λ z. ap (product (suc p) table (bytes p n v)) found ∙ product-bytes p table is n fits v _
        ∙ ap (bytes p n) (t-inverse T c v (λ e. z (ap (bytes p n) e ∙ sym (zeroes-vec p n)))) ∙ sym (ones-vec p n);
    unique = λ b hb e. operand-vec p hb ∙ ap (bytes p n) (t-unique T c v (vec p b) (bytes-inj p n fits _ _
        (sym (product-bytes p table is n fits v (vec p b)) ∙ ap (product (suc p) table (bytes p n v)) (sym (operand-vec p hb)) ∙ e ∙ ones-vec p n)))
        ∙ sym found;
  }
    where
      T : Ix p → Vec p
      T = rows p table

      found : inverse (suc p) table (bytes p n v) ≡ bytes p n (turn (at 1) (t T p v))
      found = inverse-vec p table is c n fits v two

pub theorem_b : TheoremB
theorem_b = record { inverses = given; products = λ m table a. products-made m table a; logarithm = log2-bounds }
  where
    given : (n m : ℕ) (table a : List ℕ) → 2 ≤ m → m ≤ 8 * n → IsTable m table → Accepted m table → IsOperand n m a → GivesInverse n m table a
    given n zero table a two fits is k ha = absurd (omega arith)
    given n (suc p) table a two fits is k ha =
        rw (operand-vec p ha) (inverses n p table two fits is ((laws p table is two).0 k) (vec p a))

-- a power of β0 is one (t-all of VectorField, in document 02's words), so that β0 times one, which is the sum of all rows, is β0
pub theorem_c : TheoremC
theorem_c zero table two is s six = absurd (omega arith)
theorem_c (suc p) table two is s six = rule7 p table is (rule7ᵛ (rows p table) ((laws p table is two).0 (record { symmetric = s; rule6 = six })))

pub theorem_i : TheoremI
theorem_i m table two is = (λ k. (k, theorem_c m table two is k.symmetric k.rule6), λ h. h.0)

pub theorem_f : TheoremF
theorem_f zero table two is s first i j li lj = absurd (omega arith)
theorem_f (suc p) table two is s first i j li lj = (rule6 p table is i j li lj).1 (rule6-first (rows p table) ((symmetric p table is two).0 s)
    (λ j. simp at-num at ((rule6 p table is 0 j.num (omega arith) j.below).0 (first j.num j.below))) (at i) (at j))

pub theorem_d : TheoremD
theorem_d zero table two is s a b = absurd (omega arith)
theorem_d (suc p) table two is s a b =
    let v = (symmetric p table is two).0 s in
    let q = sym (product-vec p table is a b) in
    record { pairs = reduced-vec p table is v a b ∙ q; distances = distance-vec p table is v a b ∙ q }

module _ (p : ℕ) (table : List ℕ) (is : IsTable (suc p) table) where
  abbrev T : Ix p → Vec p
  T = rows p table

  ones-count : ones_in (suc p) table ≡ ones_of T
  unfolding ones_in ones_of rows vec
  ones-count = sum-Σ p _ ∙ Σ-ext nats (λ d. sum-Σ p _ ∙ Σ-ext nats (λ s. sym (bit-coord (row (suc p) table d.num) s.num)))

  pair-coord : (i j r : Ix p) → coord (pair_product (suc p) table i.num j.num) r.num ≡ bit (pair T i j r)
  pair-coord i j r = sym (bit-coord (pair_product (suc p) table i.num j.num) r.num) ∙ ap bit (pair-odd p table is i j r)

  pair-at : (i j : ℕ) → i < suc p → j < suc p → (r : Ix p) → coord (pair_product (suc p) table i j) r.num ≡ bit (pair T (at i) (at j) r)
  pair-at i j li lj r =
      ap₂ (λ i j. coord (pair_product (suc p) table i j) r.num) (sym (num-at {p = p} i li)) (sym (num-at {p = p} j lj)) ∙ pair-coord (at i) (at j) r

  triangle : (f g : ℕ → ℕ → ℕ) → ((i j : ℕ) → i < suc p → j < suc p → f i j ≡ g i j) →
      sum (suc p) (λ j. sum j (λ i. f i j)) ≡ big nats (suc p) (λ j. big nats j (λ i. g i j))
  triangle f g h = sum-big (suc p) _ ∙ big-ext nats (suc p) _ _ (λ j lj. sum-big j _ ∙ big-ext nats j _ _ (λ i li. h i j (omega arith) lj))

  below-count : (r : Ix p) → pairs_below (suc p) table r.num ≡ half_pairs T r
  unfolding pairs_below half_pairs
  below-count r = triangle _ _ (λ i j li lj. pair-at i j li lj r)

  abbrev ix : (n : ℕ) → n < suc p → Ix p
  ix n l = record { num = n; below = l }

  counts : 1 < suc p → CountsPairs (suc p) table
  unfolding pairs_with pairs_above
  counts two = record {
    all = λ r l. sum-Σ p _ ∙ Σ-ext nats (λ i. sum-Σ p _ ∙ Σ-ext nats (λ j. pair-coord i j (ix r l))) ∙ count-pairs T (ix r l) ∙ sym ones-count;
    diagonal = λ s i r li lr. let d = diagonal-pair T ((symmetric p table is two).0 s) (ix i li) (ix r lr) in
        let c = pair-coord (ix i li) (ix i li) (ix r lr) in (
          λ e. ap (λ (x : Ix p). x.num) (d.0 (bit_inj _ true (sym c ∙ e))) ∙ sym (num-minus (ix r lr) 1),
          λ e. c ∙ ap bit (d.1 (ix-path (e ∙ num-minus (ix r lr) 1))),
        );
    halves = λ s r l. below-count (ix r l) ∙ count-swap T ((symmetric p table is two).0 s) (ix r l)
        ∙ sym (triangle _ _ (λ i j li lj. pair-at j i lj li (ix r l)));
    total = λ s r l. ones-count ∙ count-half T ((symmetric p table is two).0 s) (ix r l) ∙ omega (arith, below-count (ix r l));
    full_row = λ f d e ld le hd he. sym (num-at {p = p} d ld) ∙ ap (λ (x : Ix p). x.num) (rows-differ T (to-field p table is f) (at d) (at e)
        (bytes-inj p _ (bytes_fit (suc p)) _ _ (sym (row-vec p table is d ld) ∙ hd ∙ sym he ∙ row-vec p table is e le))) ∙ num-at {p = p} e le;
  }

pub theorem_e : TheoremE
theorem_e zero table two is = absurd (omega arith)
theorem_e (suc p) table two is = counts p table is two

pub theorem_g : TheoremG
theorem_g zero table two is k = absurd (omega arith)
theorem_g (suc p) table two is k =
    let c = (laws p table is two).0 k in
    omega (arith, ones-count p table is, count-least (rows p table) (field (rows p table) c) (rule7ᵛ (rows p table) c))
