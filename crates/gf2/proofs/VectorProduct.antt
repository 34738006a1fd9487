-- The product of two vectors under a table T, row d of which is the vector T d.
-- _·_: the product; pair i j: the product of two basis elements.
-- For any table: the product is bilinear, and a turn respects it; mul-comb: a factor that is a linear combination; mul-o: a product with β0 is a sum of rows.
-- Under rule 5 it is commutative; under rules 4 and 5 a square is the turn by one.
use mathlib.Core.Path.{◌≡◌, ◌∙◌, ap, fun_ext}
use mathlib.Core.Bool.{◌&&◌}
use Prim.Native.Nat.{ℕ}
use Rattle.gf2.proofs.Parity.{bits}
use Rattle.gf2.proofs.Index.{Ix, at, o, ◌⊹◌, ◌⊖◌, add-c, sub-add, sub_self, sub-z, sub-sum, sub-both}
use Rattle.gf2.proofs.IndexSums.{Σ, Σ-and}
use Rattle.gf2.proofs.Vector.{Vec, turn, β, zeros, add, lin, lin-β, lin-basis, lin-lin, lin-swap, lin-turn, turn-lin, lin-add, lin-sum, lin-zero, lin-diagonal, turn-β, β-shift, turn-turn, turn-z}

module _ {p : ℕ} (T : Ix p → Vec p) where
  infixl 70 ◌·◌
  unfoldable pub ◌·◌ : Vec p → Vec p → Vec p
  (a · b) r = Σ bits (λ i. Σ bits (λ j. a i && (b j && T (j ⊖ i) (r ⊖ i))))

  unfoldable pub pair : Ix p → Ix p → Vec p
  pair i j = turn i (T (j ⊖ i))

  pub mul-lin : (a b : Vec p) → a · b ≡ lin a (λ i. lin b (pair i))
  unfolding ◌·◌ lin pair turn
  mul-lin a b = fun_ext (λ r. simp (← Σ-and))

  pub add-mul : (a b c : Vec p) → add a b · c ≡ add (a · c) (b · c)
  add-mul a b c = simp (mul-lin, lin-add)

  pub mul-add : (a b c : Vec p) → a · add b c ≡ add (a · b) (a · c)
  mul-add a b c = simp (mul-lin, lin-add) (lin-sum a (λ i. lin b (pair i)) (λ i. lin c (pair i)))

  pub mul-comb : (a x : Vec p) (v : Ix p → Vec p) → a · lin x v ≡ lin x (λ j. a · v j)
  mul-comb a x v = simp (mul-lin, lin-lin) (lin-swap a x (λ i j. lin (v j) (pair i)))

  pub zeros-mul : (a : Vec p) → zeros · a ≡ zeros
  zeros-mul a = mul-lin zeros a ∙ lin-zero (λ i. lin a (pair i))

  turn-pair : (k i j : Ix p) → turn k (pair i j) ≡ pair (i ⊹ k) (j ⊹ k)
  unfolding pair
  turn-pair k i j = rw (turn-turn k i (T (j ⊖ i)), sub-both j i k)

  pub turn-mul : (k : Ix p) (a b : Vec p) → turn k (a · b) ≡ turn k a · turn k b
  turn-mul k a b = simp (mul-lin, turn-lin, lin-turn, turn-pair)

  pub mul-β : (i : Ix p) (b : Vec p) → β i · b ≡ lin b (pair i)
  mul-β i b = rw (mul-lin, lin-β)

  pub mul-ββ : (i j : Ix p) → β i · β j ≡ pair i j
  mul-ββ i j = rw (mul-β, lin-β)

  pub pair-o : (d : Ix p) → pair o d ≡ T d
  unfolding pair
  pair-o d = rw (turn-z, sub-z)

  pub mul-o : (b : Vec p) → β o · b ≡ lin b T
  mul-o b = mul-β o b ∙ ap (lin b) (fun_ext pair-o)

  -- rules 4 and 5
  pub record Symmetric : Type 0 where
    pub rule4 : T o ≡ β (at 1)
    pub rule5 : (d : Ix p) → T d ≡ turn d (T (o ⊖ d))

  module _ (s : Symmetric) where
    pub pair-swap : (i j : Ix p) → pair i j ≡ pair j i
    unfolding pair
    pair-swap i j =
        ap (turn i) (s.rule5 (j ⊖ i)) ∙ turn-turn i (j ⊖ i) (T (o ⊖ (j ⊖ i))) ∙ rw (sub-add, ← sub_self i, ← sub-sum, sub-add)

    pub mul_comm : (a b : Vec p) → a · b ≡ b · a
    mul_comm a b = simp mul-lin (lin-swap a b pair ∙ ap (lin b) (fun_ext (λ j. ap (lin a) (fun_ext (λ i. pair-swap i j)))))

    pub pair-self : (i : Ix p) → pair i i ≡ β (i ⊹ at 1)
    unfolding pair
    pair-self i = simp (sub_self, s.rule4, turn-β) (ap β (add-c (at 1) i))

    pub pair-diagonal : (i r : Ix p) → pair i i r ≡ β (r ⊖ at 1) i
    pair-diagonal i r = ap (λ v. v r) (pair-self i) ∙ β-shift (at 1) i r

    -- the terms off the diagonal cancel
    diagonal : (a : Vec p) → a · a ≡ lin a (λ i. pair i i)
    diagonal a = mul-lin a a ∙ lin-diagonal a pair pair-swap

    pub mul-square : (a : Vec p) → a · a ≡ turn (at 1) a
    mul-square a = diagonal a ∙ simp (pair-self, ← turn-β, ← turn-lin) (ap (turn (at 1)) (lin-basis a))
