-- How many pairs (i, j) have coordinate r in βi·βj.
-- count-pairs: for any table as many as the table has ones, for every r.
-- Under rule 4 one of them is diagonal (diagonal-pair, count-diagonal), under rule 5 the others come in equal halves (count-swap).
-- count-half: the number of ones is 1 and twice the number of pairs i < j.
-- count-least: in a field with rule 7 there are 2m - 1 ones at least.
use mathlib.Core.Path.{◌≡◌, sym, ◌∙◌, ap, ap₂}
use mathlib.Core.Logic.{◌↔◌}
use mathlib.Core.Bool.{Bool, true, false, ◌&&◌}
use Prim.Native.Nat.{ℕ, suc, ◌+◌, ◌*◌, ◌%◌, ◌≤◌}
use native.Mathlib.Omega.{arith}
use Rattle.gf2.proofs.Monoid.{nats, big, big-ext, big-plus, big-square}
use Rattle.gf2.proofs.Parity.{bits, bit, bit-odd, odd-true}
use Rattle.gf2.proofs.Index.{Ix, at, o, ◌⊖◌, add-sub}
use Rattle.gf2.proofs.IndexSums.{Σ, Σ-ext, Σ-swap, Σ-shift, Σ-reflect, Σ-point, Σ-plus, Σ-mono, Σ-const, odd-count}
use Rattle.gf2.proofs.Vector.{Vec, turn, lin, β, β-eq, β-ne, β-refl}
use Rattle.gf2.proofs.VectorProduct.{pair, Symmetric, pair-swap, pair-diagonal}
use Rattle.gf2.proofs.VectorField.{Field, Rule7, rows-span}

bit_and : (a b : Bool) → bit (a && b) ≤ bit b
bit_and true b = omega arith
bit_and false b = omega arith

count-β : {p : ℕ} (k : Ix p) → Σ nats (λ i. bit (β k i)) ≡ 1
count-β k = Σ-point nats k (λ i. bit (β k i)) (λ i ne. ap bit (β-ne k i ne)) ∙ ap bit (β-refl k)

module _ {p : ℕ} (T : Ix p → Vec p) where
  -- the ones of the table
  unfoldable pub ones_of : ℕ
  ones_of = Σ nats (λ d. Σ nats (λ s. bit (T d s)))

  -- the pairs i < j, of those numbers, with coordinate r
  unfoldable pub half_pairs : Ix p → ℕ
  half_pairs r = big nats (suc p) (λ j. big nats j (λ i. bit (pair T (at i) (at j) r)))

  pub count-pairs : (r : Ix p) → Σ nats (λ i. Σ nats (λ j. bit (pair T i j r))) ≡ ones_of
  unfolding pair turn ones_of
  count-pairs r =
      Σ-ext nats (λ i. sym (Σ-shift nats (λ j. bit (T (j ⊖ i) (r ⊖ i))) i) ∙ Σ-ext nats (λ d. ap (λ z. bit (T z (r ⊖ i))) (add-sub d i)))
      ∙ Σ-swap nats (λ i d. bit (T d (r ⊖ i))) ∙ Σ-ext nats (λ d. Σ-reflect nats (λ k. bit (T d k)) r)

  module _ (s : Symmetric T) where
    pub diagonal-pair : (i r : Ix p) → (pair T i i r ≡ true) ↔ (i ≡ r ⊖ at 1)
    diagonal-pair i r = (λ e. sym (β-eq (r ⊖ at 1) i (sym (pair-diagonal T s i r) ∙ e)), λ e. pair-diagonal T s i r ∙ ap (β (r ⊖ at 1)) e ∙ β-refl (r ⊖ at 1))

    pub count-diagonal : (r : Ix p) → Σ nats (λ i. bit (pair T i i r)) ≡ 1
    count-diagonal r = Σ-ext nats (λ i. ap bit (pair-diagonal T s i r)) ∙ count-β (r ⊖ at 1)

    pub count-swap : (r : Ix p) → half_pairs r ≡ big nats (suc p) (λ j. big nats j (λ i. bit (pair T (at j) (at i) r)))
    unfolding half_pairs
    count-swap r = big-ext nats (suc p) _ _ (λ j l. big-ext nats j _ _ (λ i g. ap (λ v. bit (v r)) (pair-swap T s (at i) (at j))))

    pub count-half : (r : Ix p) → ones_of ≡ 1 + (half_pairs r + half_pairs r)
    unfolding Σ half_pairs
    count-half r = sym (count-pairs r) ∙ big-square nats (suc p) (λ i j. bit (pair T (at i) (at j) r)) ∙ ap₂ ◌+◌ (count-diagonal r) halves
      where
        halves : big nats (suc p) (λ j. big nats j (λ i. bit (pair T (at i) (at j) r) + bit (pair T (at j) (at i) r))) ≡ half_pairs r + half_pairs r
        halves = big-ext nats (suc p) _ _ (λ j l. big-plus nats j _ _) ∙ big-plus nats (suc p) _ _ ∙ ap (λ z. half_pairs r + z) (sym (count-swap r))

  -- in a field no column is empty; by rule 7 all but column 0 have an even number of ones
  module _ (f : Field T) (seven : Rule7 T) where
    abbrev column : Ix p → ℕ
    column s = Σ nats (λ d. bit (T d s))

    column-odd : (s : Ix p) → column s % 2 ≡ bit (β o s)
    column-odd s = sym (bit-odd (column s)) ∙ ap bit (odd-count (λ d. T d s) ∙ seven s)

    column-some : (s : Ix p) → 1 ≤ column s
    column-some s = omega (arith, odd-true _ (odd-count (λ d. y d && T d s) ∙ one), Σ-mono _ _ (λ d. bit_and (y d) (T d s)))
      where
        y : Vec p
        y = (rows-span T f (β s)).0

        one : Σ bits (λ d. y d && T d s) ≡ true
        one = unfold lin in ap (λ v. v s) (rows-span T f (β s)).1 ∙ β-refl s

    pub count-least : 2 * suc p ≤ ones_of + 1
    count-least = omega (arith, Σ-const p 2, Σ-mono _ _ each, total)
      where
        each : (s : Ix p) → 2 ≤ column s + bit (β o s)
        each s = omega (arith, column-some s, column-odd s)

        total : Σ nats (λ s. column s + bit (β o s)) ≡ ones_of + 1
        total = Σ-plus nats column (λ s. bit (β o s)) ∙ ap₂ ◌+◌ (unfold ones_of in Σ-swap nats (λ s d. bit (T d s))) (count-β o)
