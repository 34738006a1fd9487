-- Other forms of the product of two vectors.
-- For any table: mul-rows, by the rows of the table; mul-scatter, by the places of its ones.
-- Under rules 4 and 5, coordinate r of a·b is a(r-1)·b(r-1) and
-- mul-pairs: the sum over the pairs i < j;
-- mul-distance: the sum over the distances 1 .. (m-1)/2 of all m pairs, and for even m half of those at distance m/2;
-- mul-halves: the same by the places of the ones in rows 1 .. m/2.
use mathlib.Core.Path.{◌≡◌, refl, sym, ◌∙◌, ap, ap₂, fun_ext}
use mathlib.Core.Bool.{Bool, ◌&&◌, and_assoc, and_comm}
use Prim.Native.Nat.{ℕ, suc, ◌+◌, ◌-◌, ◌/◌}
use native.Mathlib.Omega.{arith}
use Rattle.gf2.proofs.Monoid.{big, big-ext, big-first, big-append, big-square, big-plus}
use Rattle.gf2.proofs.Parity.{◌⊕◌, bits, xor-and, and-cong, odd, odd-true, big-fold}
use Rattle.gf2.proofs.Index.{Ix, at, at-neg, o, ◌⊹◌, ◌⊖◌, at-add, at_all, add-c, add_right, add-z, z-add, add-sub, add-neg, sub-add, sub-eq, sub-sum}
use Rattle.gf2.proofs.IndexSums.{Σ, Σ-ext, Σ-swap, Σ-shift}
use Rattle.gf2.proofs.Vector.{Vec, turn, ones, add, lin, lin-turn, lin-β, lin-turns, lin-sum, turn-add, turn-turn}
use Rattle.gf2.proofs.VectorProduct.{◌·◌ as mul, pair, Symmetric, pair-swap, pair-diagonal}

module _ {p : ℕ} where
  -- the products of coordinates i of a and i + d of b
  unfoldable pub apart : Ix p → Vec p → Vec p → Vec p
  apart d a b i = a i && b (i ⊹ d)

  -- the same both ways round
  unfoldable pub across : Ix p → Vec p → Vec p → Vec p
  across d a b = add (apart d a b) (apart d b a)

  module _ (T : Ix p → Vec p) where
    -- e turned by each place of a one in row d, and summed
    unfoldable pub scatter : Ix p → Vec p → Vec p
    scatter d e = lin (T d) (λ s. turn s e)

    -- the first n of the pairs i, i + d
    unfoldable pub pairs_at : ℕ → ℕ → Vec p → Vec p → Vec p
    pairs_at n d a b r = big bits n (λ i. across (at d) a b (at i) && T (at d) (r ⊖ at i))

    pub mul-rows : (a b : Vec p) (r : Ix p) → mul T a b r ≡ Σ bits (λ d. Σ bits (λ i. apart d a b i && T d (r ⊖ i)))
    unfolding mul apart
    mul-rows a b r =
        Σ-ext bits (λ i. sym (Σ-shift bits (λ j. a i && (b j && T (j ⊖ i) (r ⊖ i))) i) ∙ Σ-ext bits (λ d. term i d))
        ∙ Σ-swap bits (λ i d. a i && b (i ⊹ d) && T d (r ⊖ i))
      where
        term : (i d : Ix p) → (a i && (b (d ⊹ i) && T ((d ⊹ i) ⊖ i) (r ⊖ i))) ≡ (a i && b (i ⊹ d) && T d (r ⊖ i))
        term i d = rw (add-sub, add-c d i) (sym (and_assoc (a i) (b (i ⊹ d)) (T d (r ⊖ i))))

    -- a sum over pairs at one distance, by the places of the ones
    pub by-places : (d : Ix p) (e : Vec p) (r : Ix p) → Σ bits (λ i. e i && T d (r ⊖ i)) ≡ scatter d e r
    unfolding scatter lin turn
    by-places d e r = ap (λ f. f r) (lin-turns e (T d))

    scatter-add : (d : Ix p) (e f : Vec p) → scatter d (add e f) ≡ add (scatter d e) (scatter d f)
    unfolding scatter
    scatter-add d e f = simp turn-add (lin-sum (T d) (λ s. turn s e) (λ s. turn s f))

    pub all-pairs : (d : ℕ) (a b : Vec p) (r : Ix p) → pairs_at (suc p) d a b r ≡ scatter (at d) (across (at d) a b) r
    unfolding pairs_at
    all-pairs d a b r = (unfold Σ in by-places (at d) (across (at d) a b) r)

    pub mul-scatter : (a b : Vec p) → mul T a b ≡ lin ones (λ d. scatter d (apart d a b))
    mul-scatter a b = fun_ext (λ r. mul-rows a b r ∙ (unfold lin in Σ-ext bits (λ d. by-places d (apart d a b) r)))

    module _ (s : Symmetric T) where
      -- the pairs i < j
      pub mul-pairs : (a b : Vec p) (r : Ix p) → mul T a b r ≡ (a (r ⊖ at 1) && b (r ⊖ at 1))
          ⊕ big bits (suc p) (λ j. big bits j (λ i. ((a (at i) && b (at j)) ⊕ (a (at j) && b (at i))) && pair T (at i) (at j) r))
      unfolding Σ
      mul-pairs a b r = start ∙ big-square bits (suc p) (λ i j. term (at i) (at j)) ∙ ap₂ ◌⊕◌ diagonal off
        where
          term : Ix p → Ix p → Bool
          term i j = a i && (b j && pair T i j r)

          start : mul T a b r ≡ big bits (suc p) (λ i. big bits (suc p) (λ j. term (at i) (at j)))
          start = unfold mul Σ pair turn in refl

          diagonal : big bits (suc p) (λ i. term (at i) (at i)) ≡ (a (r ⊖ at 1) && b (r ⊖ at 1))
          diagonal =
              Σ-ext bits (λ i. ap (λ z. a i && (b i && z)) (pair-diagonal T s i r) ∙ sym (and_assoc (a i) (b i) _) ∙ and_comm (a i && b i) _)
              ∙ (unfold lin in ap (λ f. f r) (lin-β (r ⊖ at 1) (λ i x. a i && b i)))

          both : (i j : Ix p) → term i j ⊕ term j i ≡ (((a i && b j) ⊕ (a j && b i)) && pair T i j r)
          both i j = ap (λ v. term i j ⊕ (a j && (b i && v r))) (pair-swap T s j i)
              ∙ ap₂ ◌⊕◌ (sym (and_assoc (a i) (b j) (pair T i j r))) (sym (and_assoc (a j) (b i) (pair T i j r)))
              ∙ sym (xor-and (a i && b j) (a j && b i) (pair T i j r))

          off : big bits (suc p) (λ j. big bits j (λ i. term (at i) (at j) ⊕ term (at j) (at i)))
              ≡ big bits (suc p) (λ j. big bits j (λ i. ((a (at i) && b (at j)) ⊕ (a (at j) && b (at i))) && pair T (at i) (at j) r))
          off = big-ext bits (suc p) _ _ (λ j l. big-ext bits j _ _ (λ i g. both (at i) (at j)))

      turn-apart : (d : Ix p) (a b : Vec p) → turn d (apart d b a) ≡ apart (o ⊖ d) a b
      unfolding turn apart
      turn-apart d a b = fun_ext (λ x. ap₂ ◌&&◌ (ap b (sym (add-neg x d))) (ap a (sub-add x d)) ∙ and_comm _ (a x))

      -- row -d serves the pairs of row d the other way round
      scatter-swap : (d : Ix p) (a b : Vec p) → scatter d (apart d b a) ≡ scatter (o ⊖ d) (apart (o ⊖ d) a b)
      unfolding scatter
      scatter-swap d a b =
          ap (λ v. lin v (λ k. turn k (apart d b a))) (s.rule5 d) ∙ lin-turn d (T (o ⊖ d)) (λ k. turn k (apart d b a))
          ∙ ap (lin (T (o ⊖ d))) (fun_ext (λ k. ap (λ z. turn z (apart d b a)) (add-c k d) ∙ sym (turn-turn k d _) ∙ ap (turn k) (turn-apart d a b)))

      scatter-zero : (a b : Vec p) (r : Ix p) → scatter o (apart o a b) r ≡ (a (r ⊖ at 1) && b (r ⊖ at 1))
      unfolding scatter
      scatter-zero a b r = ap (λ v. lin v (λ k. turn k (apart o a b)) r) s.rule4 ∙ ap (λ f. f r) (lin-β (at 1) (λ k. turn k (apart o a b)))
          ∙ (unfold turn apart in ap (λ z. a (r ⊖ at 1) && b z) (add-z (r ⊖ at 1)))

      pub mul-halves : (a b : Vec p) (r : Ix p) → mul T a b r ≡ (a (r ⊖ at 1) && b (r ⊖ at 1))
          ⊕ (big bits (p / 2) (λ d. scatter (at (suc d)) (across (at (suc d)) a b) r) ⊕ (odd p && scatter (at (suc p / 2)) (apart (at (suc p / 2)) a b) r))
      mul-halves a b r = start ∙ ap₂ ◌⊕◌ (scatter-zero a b r) (big-fold p (λ d. row (at (suc d))) ∙ ap₂ ◌⊕◌ both middle)
        where
          row : Ix p → Bool
          row d = scatter d (apart d a b) r

          start : mul T a b r ≡ row o ⊕ big bits p (λ d. row (at (suc d)))
          start = ap (λ f. f r) (mul-scatter a b) ∙ (unfold lin Σ in big-first bits p (λ d. row (at d)))

          step : (d : Ix p) → row d ⊕ row (o ⊖ d) ≡ scatter d (across d a b) r
          step d = ap (λ v. row d ⊕ v r) (sym (scatter-swap d a b)) ∙ (unfold across add in ap (λ v. v r) (sym (scatter-add d (apart d a b) (apart d b a))))

          both : big bits (p / 2) (λ d. row (at (suc d)) ⊕ row (at (suc (p - suc d))))
              ≡ big bits (p / 2) (λ d. scatter (at (suc d)) (across (at (suc d)) a b) r)
          both = big-ext bits (p / 2) _ _ (λ d l. let q : suc (p - suc d) ≡ suc p - suc d = omega arith in
              ap (λ z. row (at (suc d)) ⊕ row z) (ap at q ∙ at-neg (suc d) (omega arith)) ∙ step (at (suc d)))

          middle : (odd p && row (at (suc (p / 2)))) ≡ (odd p && row (at (suc p / 2)))
          middle = and-cong (odd p) (λ e. ap (λ z. row (at z)) (omega (arith, odd-true p e)))

      -- where d + d = m, each pair at distance d comes twice among all m
      half-pairs : (d : ℕ) → d + d ≡ suc p → (a b : Vec p) (r : Ix p) → pairs_at d d a b r ≡ scatter (at d) (apart (at d) a b) r
      unfolding pairs_at across add Σ
      half-pairs d e a b r = sym (sym (by-places (at d) (apart (at d) a b) r) ∙ ap (λ n. big bits n (term a b)) (sym e)
          ∙ big-append bits d d (term a b) ∙ sym (big-plus bits d (term a b) (λ i. term a b (d + i))) ∙ big-ext bits d _ _ (λ i l. once i))
        where
          D : Ix p
          D = at d

          twice : D ⊹ D ≡ o
          twice = at-add d d ∙ ap at e ∙ at_all

          term : Vec p → Vec p → ℕ → Bool
          term a b i = apart D a b (at i) && T D (r ⊖ at i)

          same : (x : Ix p) → T D (x ⊖ D) ≡ T D x
          same x = sym (ap (λ v. v x) (s.rule5 D) ∙ (unfold turn in ap (λ z. T z (x ⊖ D)) (sub-eq o D D twice)))

          other : (i : ℕ) → term a b (d + i) ≡ term b a i
          other i = ap (λ z. apart D a b z && T D (r ⊖ z)) (sym (at-add d i)) ∙ ap₂ ◌&&◌ swapped (ap (T D) (sub-sum r D (at i)) ∙ same (r ⊖ at i))
            where
              swapped : apart D a b (D ⊹ at i) ≡ apart D b a (at i)
              swapped = unfold apart in
                  ap₂ ◌&&◌ (ap a (add-c D (at i))) (ap b (add_right D (at i) D ∙ ap (λ z. z ⊹ at i) twice ∙ z-add (at i)))
                  ∙ and_comm (a (at i ⊹ D)) (b (at i))

          once : (i : ℕ) → term a b i ⊕ term a b (d + i) ≡ ((apart D a b (at i) ⊕ apart D b a (at i)) && T D (r ⊖ at i))
          once i = ap (λ z. term a b i ⊕ z) (other i) ∙ sym (xor-and (apart D a b (at i)) (apart D b a (at i)) (T D (r ⊖ at i)))

      pub mul-distance : (a b : Vec p) (r : Ix p) → mul T a b r ≡ (a (r ⊖ at 1) && b (r ⊖ at 1))
          ⊕ (big bits (p / 2) (λ d. pairs_at (suc p) (suc d) a b r) ⊕ (odd p && pairs_at (suc p / 2) (suc p / 2) a b r))
      mul-distance a b r = mul-halves a b r ∙ ap (λ z. (a (r ⊖ at 1) && b (r ⊖ at 1)) ⊕ z) (ap₂ ◌⊕◌
          (big-ext bits (p / 2) _ _ (λ d l. sym (all-pairs (suc d) a b r)))
          (and-cong (odd p) (λ e. sym (half-pairs (suc p / 2) (omega (arith, odd-true p e)) a b r))))
