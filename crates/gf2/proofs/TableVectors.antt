-- Tables of width m = p + 1 as vectors.
-- rows t: the rows of a table as vectors; pair-vec, product-vec: βi·βj and the product are those of VectorProduct.
-- symmetric, rule6: each rule of the check says the same of bytes and of vectors; rule7: the row sum of vectors is that of bytes.
-- reduced-vec, distance-vec: the reduced product by pairs and by distances is the product of vectors.
use mathlib.Core.Path.{◌≡◌, sym, ◌∙◌, ap, ap₂, fun_ext}
use mathlib.Core.Logic.{◌↔◌}
use mathlib.Core.List.{List}
use mathlib.Core.Bool.{Bool, true, false, ◌&&◌, and_assoc, and_comm}
use Prim.Native.Nat.{ℕ, zero, suc, ◌+◌, ◌-◌, ◌*◌, ◌/◌, ◌%◌, ◌<◌, ◌≤◌}
use native.Mathlib.Omega.{arith}
use lib.ListN.{length}
use lib.Dec.{eqb}
use borrow.Author.Tests.{eqb-true, eq-eqb}
use Rattle.gf2.specs.Sums.{sum}
use Rattle.gf2.specs.Coordinates.{coord}
use Rattle.gf2.specs.Operands.{bytes_for, minus, choose, turned}
use Rattle.gf2.specs.Tables.{row, IsTable, basis, pair_product}
use Rattle.gf2.specs.Products.{product, reduced, pairs_apart, by_distance}
use Rattle.gf2.specs.Check.{Rule6, Symmetric}
use Rattle.gf2.specs.Statements.{Rule7, row_sum}
use Rattle.gf2.proofs.Monoid.{big, big-ext}
use Rattle.gf2.proofs.Parity.{◌⊕◌, bits, bool-ext, odd, odd-zero, odd-one, odd-eq, odd-true, odd-add, odd-mul, odd-sum}
use Rattle.gf2.proofs.Index.{Ix, at, at-mod, at-add, at-neg, o, ◌⊹◌, ◌⊖◌, add-c, add-sub, num-at, at-num, num-minus, sub-z}
use Rattle.gf2.proofs.IndexSums.{Σ-ext, odd-Σ}
use Rattle.gf2.proofs.Vector.{Vec, turn, β, add, turn-z}
use Rattle.gf2.proofs.VectorProduct.{◌·◌, pair, Symmetric as Symmetricᵛ}
use Rattle.gf2.proofs.VectorField.{Rule7 as Rule7ᵛ}
use Rattle.gf2.proofs.VectorForms.{apart, across, pairs_at, mul-pairs, mul-distance}
use Rattle.gf2.proofs.OperandVectors.{bytes_fit, vec, bytes, length-bytes, vec-bytes, operand-vec, from_vec, turned-vec, basis-vec, bytes-inj, turned-bytes}

module _ (p : ℕ) (t : List ℕ) where
  unfoldable pub rows : Ix p → Vec p
  rows d = vec p (row (suc p) t d.num)

module _ (p : ℕ) (t : List ℕ) (is : IsTable (suc p) t) where
  abbrev W : ℕ
  W = bytes_for (suc p)

  abbrev T : Ix p → Vec p
  T = rows p t

  fits : suc p ≤ 8 * W
  fits = bytes_fit (suc p)

  pub row-vec : (d : ℕ) → d < suc p → row (suc p) t d ≡ bytes p W (T (at d))
  unfolding rows
  row-vec d l = operand-vec p (is.rows d l) ∙ ap (λ k. bytes p W (vec p (row (suc p) t k))) (sym (num-at {p = p} d l))

  pub pair-vec : (i j : Ix p) → vec p (pair_product (suc p) t i.num j.num) ≡ pair T i j
  unfolding pair_product pair rows
  pair-vec i j =
      ap (λ k. vec p (turned (suc p) i.num (row (suc p) t k))) (num-minus j i.num ∙ ap (λ z. (j ⊖ z).num) (at-num i))
      ∙ ap (vec p) (turned-vec p i.num R) ∙ vec-bytes p (length R) _ (rw (is.rows (j ⊖ i).num (j ⊖ i).below).size fits)
      ∙ ap (λ z. turn z (vec p R)) (at-num i)
    where
      R : List ℕ
      R = row (suc p) t (j ⊖ i).num

  pub pair-odd : (i j r : Ix p) → odd (coord (pair_product (suc p) t i.num j.num) r.num) ≡ pair T i j r
  unfolding vec
  pair-odd i j r = ap (λ v. v r) (pair-vec i j)

  pub product-vec : (a b : List ℕ) → product (suc p) t a b ≡ bytes p (length a) (◌·◌ T (vec p a) (vec p b))
  unfolding product ◌·◌
  product-vec a b = from_vec p (length a) _ _ (λ r. odd-Σ p _ ∙ Σ-ext bits (λ i. odd-Σ p _ ∙ Σ-ext bits (λ j. term r i j)))
    where
      term : (r i j : Ix p) → odd (coord a i.num * coord b j.num * coord (pair_product (suc p) t i.num j.num) r.num)
          ≡ (vec p a i && (vec p b j && T (j ⊖ i) (r ⊖ i)))
      term r i j = unfold vec pair turn in
          odd-mul (coord a i.num * coord b j.num) _ ∙ ap₂ ◌&&◌ (odd-mul (coord a i.num) _) (pair-odd i j r)
          ∙ and_assoc (vec p a i) (vec p b j) (pair T i j r)

  pub product-bytes : (n : ℕ) → suc p ≤ 8 * n → (v w : Vec p) → product (suc p) t (bytes p n v) (bytes p n w) ≡ bytes p n (◌·◌ T v w)
  product-bytes n h v w = simp (product-vec, length-bytes, vec-bytes)

  -- the rules
  turned-row : (k d : ℕ) → d < suc p → turned (suc p) k (row (suc p) t d) ≡ bytes p W (turn (at k) (T (at d)))
  turned-row k d l = ap (turned (suc p) k) (row-vec d l) ∙ turned-bytes p W fits k (T (at d))

  pub rule6 : (i j : ℕ) → i < suc p → j < suc p →
      Rule6 (suc p) t i j ↔ (◌·◌ T (◌·◌ T (β o) (β (at i))) (β (at j)) ≡ ◌·◌ T (β o) (◌·◌ T (β (at i)) (β (at j))))
  rule6 i j li lj = (λ e. bytes-inj p W fits _ _ (sym left ∙ e ∙ right), λ e. left ∙ ap (bytes p W) e ∙ sym right)
    where
      b : ℕ → List ℕ
      b = basis (suc p)

      left : product (suc p) t (product (suc p) t (b 0) (b i)) (b j) ≡ bytes p W (◌·◌ T (◌·◌ T (β o) (β (at i))) (β (at j)))
      left = let h = fits in let l : 0 < suc p = omega arith in simp (basis-vec, product-bytes)

      right : product (suc p) t (b 0) (product (suc p) t (b i) (b j)) ≡ bytes p W (◌·◌ T (β o) (◌·◌ T (β (at i)) (β (at j))))
      right = let h = fits in let l : 0 < suc p = omega arith in simp (basis-vec, product-bytes)

  pub symmetric : 1 < suc p → Symmetric (suc p) t ↔ Symmetricᵛ T
  symmetric two = (
    λ s. record { rule4 = bytes-inj p W fits _ _ (sym (row-vec 0 (omega arith)) ∙ s.rule4 ∙ basis-vec p 1 two); rule5 = five s },
    λ s. record {
      rule4 = row-vec 0 (omega arith) ∙ ap (bytes p W) s.rule4 ∙ sym (basis-vec p 1 two);
      rule5 = λ d h l. row-vec d l ∙ ap (bytes p W) (s.rule5 (at d) ∙ ap (λ z. turn (at d) (T z)) (sym (at-neg d (omega arith))))
          ∙ sym (turned-row d (suc p - d) (omega arith));
    },
  )
    where
      five : Symmetric (suc p) t → (d : Ix p) → T d ≡ turn d (T (o ⊖ d))
      five s d = ap T (sym (at-num d)) ∙ go d.num d.below ∙ ap (λ z. turn z (T (o ⊖ z))) (at-num d)
        where
          go : (n : ℕ) → n < suc p → T (at n) ≡ turn (at n) (T (o ⊖ at n))
          go zero l = sym (turn-z _ ∙ ap T (sub-z o))
          go (suc n) l = bytes-inj p W fits _ _ (sym (row-vec (suc n) l) ∙ s.rule5 (suc n) (omega arith) l ∙ turned-row (suc n) (suc p - suc n) (omega arith))
              ∙ ap (λ z. turn (at (suc n)) (T z)) (at-neg (suc n) (omega arith))

  -- theorem C: the sum of all rows
  pub rule7 : Rule7ᵛ T → Rule7 (suc p) t
  unfolding row_sum rows vec
  rule7 e = from_vec p W _ _ (λ r. odd-Σ p _) ∙ ap (bytes p W) (fun_ext e) ∙ sym (basis-vec p 0 (omega arith))

  -- theorem D: the diagonal term, by pairs, by distances
  diagonal : (a b : List ℕ) (r : Ix p) → odd (coord a (minus (suc p) r.num 1) * coord b (minus (suc p) r.num 1)) ≡ (vec p a (r ⊖ at 1) && vec p b (r ⊖ at 1))
  unfolding vec
  diagonal a b r = odd-mul _ _ ∙ ap (λ k. odd (coord a k) && odd (coord b k)) (num-minus r 1)

  -- the term of a pair i, j in the definitions, and over vectors
  pair-term : (a b : List ℕ) (r i j : Ix p) → odd ((coord a i.num * coord b j.num + coord a j.num * coord b i.num) * coord (pair_product (suc p) t i.num j.num) r.num)
      ≡ (((vec p a i && vec p b j) ⊕ (vec p a j && vec p b i)) && pair T i j r)
  unfolding vec
  pair-term a b r i j = odd-mul _ _ ∙ ap₂ ◌&&◌ (odd-add _ _ ∙ ap₂ ◌⊕◌ (odd-mul _ _) (odd-mul _ _)) (pair-odd i j r)

  pub reduced-vec : Symmetricᵛ T → (a b : List ℕ) → reduced (suc p) t a b ≡ bytes p (length a) (◌·◌ T (vec p a) (vec p b))
  unfolding reduced
  reduced-vec s a b = from_vec p (length a) _ _ (λ r. odd-add _ _ ∙ ap₂ ◌⊕◌ (diagonal a b r) (pairs r) ∙ sym (mul-pairs T s (vec p a) (vec p b) r))
    where
      term : Ix p → ℕ → ℕ → ℕ
      term r i j = (coord a i * coord b j + coord a j * coord b i) * coord (pair_product (suc p) t i j) r.num

      pairs : (r : Ix p) → odd (sum (suc p) (λ j. sum j (λ i. term r i j)))
          ≡ big bits (suc p) (λ j. big bits j (λ i. ((vec p a (at i) && vec p b (at j)) ⊕ (vec p a (at j) && vec p b (at i))) && pair T (at i) (at j) r))
      pairs r = odd-sum (suc p) _ ∙ big-ext bits (suc p) _ _ (λ j lj. odd-sum j _ ∙ big-ext bits j _ _ (λ i li.
          ap₂ (λ i j. odd (term r i j)) (sym (num-at {p = p} i (omega arith))) (sym (num-at {p = p} j lj)) ∙ pair-term a b r (at i) (at j)))

  pairs-apart : (a b : List ℕ) (r : Ix p) (n d : ℕ) → n ≤ suc p → odd (pairs_apart (suc p) t a b r.num n d) ≡ pairs_at T n d (vec p a) (vec p b) r
  unfolding pairs_apart pairs_at
  pairs-apart a b r n d h = odd-sum n _ ∙ big-ext bits n _ _ (λ i l.
      ap₂ (λ i j. odd ((coord a i * coord b j + coord a j * coord b i) * coord (pair_product (suc p) t i j) r.num)) (sym (num-at {p = p} i (omega arith))) (sym (at-mod p (i + d)))
      ∙ pair-term a b r (at i) (at (i + d)) ∙ ap (λ j. ((vec p a (at i) && vec p b j) ⊕ (vec p a j && vec p b (at i))) && pair T (at i) j r) (sym (at-add i d)) ∙ over (at i))
    where
      over : (i : Ix p) → (((vec p a i && vec p b (i ⊹ at d)) ⊕ (vec p a (i ⊹ at d) && vec p b i)) && pair T i (i ⊹ at d) r) ≡ (across (at d) (vec p a) (vec p b) i && T (at d) (r ⊖ i))
      over i = unfold across apart add pair turn in
          ap₂ ◌&&◌ (ap (λ x. (vec p a i && vec p b (i ⊹ at d)) ⊕ x) (and_comm (vec p a (i ⊹ at d)) (vec p b i))) (ap (λ k. T k (r ⊖ i)) (ap (λ k. k ⊖ i) (add-c i (at d)) ∙ add-sub (at d) i))

  even : eqb (suc p % 2) 0 ≡ odd p
  even = bool-ext _ _ (λ e. (odd-eq p 1).1 (omega (arith, eqb-true (suc p % 2) 0 e)) ∙ odd-one) (λ e. eq-eqb (suc p % 2) 0 (omega (arith, odd-true p e)))

  pub distance-vec : Symmetricᵛ T → (a b : List ℕ) → by_distance (suc p) t a b ≡ bytes p (length a) (◌·◌ T (vec p a) (vec p b))
  unfolding by_distance
  distance-vec s a b = from_vec p (length a) _ _ (λ r.
      odd-add _ _ ∙ ap₂ ◌⊕◌ (diagonal a b r) (odd-add _ _ ∙ ap₂ ◌⊕◌ (distances r) (ap (λ c. odd (choose c (halfway r) 0)) even ∙ half (odd p) r))
      ∙ sym (mul-distance T s (vec p a) (vec p b) r))
    where
      distances : (r : Ix p) → odd (sum ((suc p - 1) / 2) (λ d. pairs_apart (suc p) t a b r.num (suc p) (suc d))) ≡ big bits (p / 2) (λ d. pairs_at T (suc p) (suc d) (vec p a) (vec p b) r)
      distances r = let e : (suc p - 1) / 2 ≡ p / 2 = omega arith in
          odd-sum _ _ ∙ ap (λ n. big bits n (λ d. odd (pairs_apart (suc p) t a b r.num (suc p) (suc d)))) e ∙ big-ext bits (p / 2) _ _ (λ d l. pairs-apart a b r (suc p) (suc d) (omega arith))

      halfway : Ix p → ℕ
      halfway r = pairs_apart (suc p) t a b r.num (suc p / 2) (suc p / 2)

      half : (c : Bool) (r : Ix p) → odd (choose c (halfway r) 0) ≡ (c && pairs_at T (suc p / 2) (suc p / 2) (vec p a) (vec p b) r)
      half true r = pairs-apart a b r (suc p / 2) (suc p / 2) (omega arith)
      half false r = odd-zero
