-- Vectors of m = p + 1 bits: turn, basis, linear combination, sum.
-- turn k a: coordinate x is coordinate x - k of a; β k: only coordinate k; lin a v: the sum of the v i with a i.
-- add, zeros, ones; what one turn fixes is zeros or ones; m turns by one are the identity.
use mathlib.Core.Path.{◌≡◌, refl, sym, ◌∙◌, ap, subst, fun_ext}
use mathlib.Core.Logic.{◌≢◌}
use mathlib.Core.Bool.{Bool, true, false, ◌&&◌, and_comm, and-false, and_self_left, true≢false}
use Prim.Native.Nat.{ℕ, zero, suc}
use lib.Dec.{T, eqb, eqb→eq, eqb_refl}
use Rattle.gf2.proofs.Parity.{◌⊕◌, and_xor, xor-and, xor-zero, xor_comm, xor_assoc, xor_self, and_left, bool-ext, bits}
use Rattle.gf2.proofs.Index.{Ix, ix-path, at, o, ◌⊹◌, ◌⊖◌, at-num, at_suc, at_all, add-c, add-sub, sub-add, sub-eq, sub-z, sub-sum, sub-twice}
use Rattle.gf2.proofs.IndexSums.{Σ, Σ-plus, Σ-and, Σ-swap, Σ-ext, Σ-shift, Σ-point, Σ-nil, Σ-reflect, Σ-diagonal}

true_of : (b : Bool) → T b → b ≡ true
true_of true t = refl
true_of false t = absurd t

abbrev pub Vec : ℕ → Type 0
Vec p = Ix p → Bool

module _ {p : ℕ} where
  unfoldable pub turn : Ix p → Vec p → Vec p
  turn k a x = a (x ⊖ k)

  unfoldable pub β : Ix p → Vec p
  β k x = eqb x.num k.num

  unfoldable pub lin : Vec p → (Ix p → Vec p) → Vec p
  lin a v r = Σ bits (λ i. a i && v i r)

  unfoldable pub add : Vec p → Vec p → Vec p
  add a b x = a x ⊕ b x

  abbrev pub ones : Vec p
  ones x = true

  abbrev pub zeros : Vec p
  zeros x = false

  -- the sum
  pub add_comm : (a b : Vec p) → add a b ≡ add b a
  unfolding add
  add_comm a b = fun_ext (λ x. xor_comm (a x) (b x))

  pub add_assoc : (a b c : Vec p) → add (add a b) c ≡ add a (add b c)
  unfolding add
  add_assoc a b c = fun_ext (λ x. xor_assoc (a x) (b x) (c x))

  pub add-zeros : (a : Vec p) → add a zeros ≡ a
  unfolding add
  add-zeros a = fun_ext (λ x. xor-zero (a x))

  pub add-self : (a : Vec p) → add a a ≡ zeros
  unfolding add
  add-self a = fun_ext (λ x. xor_self (a x))

  -- the turn
  pub turn-turn : (k i : Ix p) (a : Vec p) → turn k (turn i a) ≡ turn (i ⊹ k) a
  unfolding turn
  turn-turn k i a = fun_ext (λ x. ap a (sym (sub-sum x i k)))

  pub turn-swap : (k i : Ix p) (a : Vec p) → turn k (turn i a) ≡ turn i (turn k a)
  turn-swap k i a = turn-turn k i a ∙ ap (λ z. turn z a) (add-c i k) ∙ sym (turn-turn i k a)

  pub turn-z : (a : Vec p) → turn o a ≡ a
  unfolding turn
  turn-z a = fun_ext (λ x. ap a (sub-z x))

  pub turn-add : (k : Ix p) (a b : Vec p) → turn k (add a b) ≡ add (turn k a) (turn k b)
  unfolding turn add
  turn-add k a b = refl

  pub turn-ones : (k : Ix p) → turn k ones ≡ ones
  unfolding turn
  turn-ones k = refl

  -- the basis
  pub β-refl : (x : Ix p) → β x x ≡ true
  unfolding β
  β-refl x = true_of _ (eqb_refl x.num)

  pub β-eq : (x y : Ix p) → β x y ≡ true → x ≡ y
  unfolding β
  β-eq x y e = ix-path (sym (eqb→eq y.num x.num (subst T (sym e) tt)))

  pub β-ne : (x y : Ix p) → y ≢ x → β x y ≡ false
  β-ne x y ne = bool-ext (β x y) false (λ e. absurd (ne (sym (β-eq x y e)))) (λ e. absurd (true≢false (sym e)))

  pub β≢zeros : (i : Ix p) → ¬ (β i ≡ zeros)
  β≢zeros i e = true≢false (sym (β-refl i) ∙ ap (λ f. f i) e)

  pub turn-β : (k j : Ix p) → turn k (β j) ≡ β (j ⊹ k)
  unfolding turn
  turn-β k j = fun_ext (λ x. bool-ext (β j (x ⊖ k)) (β (j ⊹ k) x)
      (λ e. rw (β-eq j (x ⊖ k) e, sub-add) (β-refl x))
      (λ e. rw (← β-eq (j ⊹ k) x e, add-sub) (β-refl j)))

  pub β-shift : (k i r : Ix p) → β (i ⊹ k) r ≡ β (r ⊖ k) i
  β-shift k i r = bool-ext (β (i ⊹ k) r) (β (r ⊖ k) i)
      (λ e. rw (← β-eq (i ⊹ k) r e, add-sub) (β-refl i))
      (λ e. rw (← β-eq (r ⊖ k) i e, sub-add) (β-refl r))

  -- linear combinations
  pub lin-β : (k : Ix p) (v : Ix p → Vec p) → lin (β k) v ≡ v k
  unfolding lin
  lin-β k v = fun_ext (λ r. Σ-point bits k (λ i. β k i && v i r) (λ i ne. ap (λ b. b && v i r) (β-ne k i ne)) ∙ ap (λ b. b && v k r) (β-refl k))

  pub lin-basis : (a : Vec p) → lin a β ≡ a
  unfolding lin
  lin-basis a = fun_ext (λ r.
      Σ-point bits r (λ i. a i && β i r) (λ i ne. ap (λ b. a i && b) (β-ne i r (λ e. ne (sym e))) ∙ and-false (a i))
      ∙ ap (λ b. a r && b) (β-refl r) ∙ and_comm (a r) true)

  pub lin-lin : (a : Vec p) (v w : Ix p → Vec p) → lin (lin a v) w ≡ lin a (λ i. lin (v i) w)
  unfolding lin
  lin-lin a v w = fun_ext (λ r. simp (and_comm, ← Σ-and)
      (Σ-swap bits (λ k i. w k r && (a i && v i k))
      ∙ Σ-ext bits (λ i. Σ-ext bits (λ k. and_left (w k r) (a i) (v i k) ∙ ap (λ z. a i && z) (and_comm (w k r) (v i k))))))

  pub lin-swap : (a b : Vec p) (v : Ix p → Ix p → Vec p) → lin a (λ i. lin b (v i)) ≡ lin b (λ j. lin a (λ i. v i j))
  unfolding lin
  lin-swap a b v = fun_ext (λ r. simp (← Σ-and)
      (Σ-swap bits (λ i j. a i && (b j && v i j r)) ∙ Σ-ext bits (λ j. Σ-ext bits (λ i. and_left (a i) (b j) (v i j r)))))

  pub lin-turn : (k : Ix p) (a : Vec p) (v : Ix p → Vec p) → lin (turn k a) v ≡ lin a (λ i. v (i ⊹ k))
  unfolding lin turn
  lin-turn k a v = fun_ext (λ r. sym (Σ-shift bits (λ i. a (i ⊖ k) && v i r) k) ∙ simp add-sub)

  pub turn-lin : (k : Ix p) (a : Vec p) (v : Ix p → Vec p) → turn k (lin a v) ≡ lin a (λ i. turn k (v i))
  unfolding lin turn
  turn-lin k a v = refl

  pub lin-add : (a b : Vec p) (v : Ix p → Vec p) → lin (add a b) v ≡ add (lin a v) (lin b v)
  unfolding lin add
  lin-add a b v = fun_ext (λ r. simp xor-and (Σ-plus bits (λ i. a i && v i r) (λ i. b i && v i r)))

  pub lin-sum : (a : Vec p) (v w : Ix p → Vec p) → lin a (λ i. add (v i) (w i)) ≡ add (lin a v) (lin a w)
  unfolding lin add
  lin-sum a v w = fun_ext (λ r. simp and_xor (Σ-plus bits (λ i. a i && v i r) (λ i. a i && w i r)))

  pub lin-zero : (v : Ix p → Vec p) → lin zeros v ≡ zeros
  unfolding lin
  lin-zero v = fun_ext (λ r. Σ-nil p bits)

  -- a symmetric square adds up to its diagonal
  pub lin-diagonal : (a : Vec p) (v : Ix p → Ix p → Vec p) → ((i j : Ix p) → v i j ≡ v j i) → lin a (λ i. lin a (v i)) ≡ lin a (λ i. v i i)
  unfolding lin
  lin-diagonal a v s = fun_ext (λ r. simp (← Σ-and)
      (Σ-diagonal (λ i j. a i && (a j && v i j r)) (λ i j. and_left (a i) (a j) (v i j r) ∙ ap (λ w. a j && (a i && w r)) (s i j))
      ∙ Σ-ext bits (λ i. and_self_left (a i) (v i i r))))

  -- a cyclic convolution is the same either way round
  pub lin-turns : (a b : Vec p) → lin a (λ i. turn i b) ≡ lin b (λ i. turn i a)
  unfolding lin turn
  lin-turns a b = fun_ext (λ r. sym (Σ-reflect bits (λ i. a i && b (r ⊖ i)) r) ∙ simp sub-twice (Σ-ext bits (λ i. and_comm (a (r ⊖ i)) (b i))))

  -- what one turn leaves as it is
  pub fixed : (e : Vec p) → turn (at 1) e ≡ e → (x : Ix p) → e x ≡ e o
  unfolding turn
  fixed e h x = ap e (sym (at-num x)) ∙ go x.num
    where
      go : (n : ℕ) → e (at n) ≡ e o
      go zero = refl
      go (suc n) = sym (ap (λ f. f (at (suc n))) h) ∙ ap e (sub-eq (at (suc n)) (at 1) (at n) (at_suc n)) ∙ go n

  pub all_same : (e : Vec p) → turn (at 1) e ≡ e → ¬ (e ≡ zeros) → e ≡ ones
  all_same e h n = go (e o) refl
    where
      go : (b : Bool) → e o ≡ b → e ≡ ones
      go true q = fun_ext (λ x. fixed e h x ∙ q)
      go false q = absurd (n (fun_ext (λ x. fixed e h x ∙ q)))

  -- turns by one
  pub turn_suc : (n : ℕ) (a : Vec p) → turn (at 1) (turn (at n) a) ≡ turn (at (suc n)) a
  turn_suc n a = turn-turn (at 1) (at n) a ∙ ap (λ k. turn k a) (at_suc n)

  pub turn-all : (a : Vec p) → turn (at (suc p)) a ≡ a
  turn-all a = rw at_all (turn-z a)
