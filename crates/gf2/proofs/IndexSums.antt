-- Sums over all indices in any commutative monoid, so that the same laws serve bits and counts.
-- Σ M f: the sum of f over all indices; ext, plus, swap, exchange, shift, reflect, point, the links to big and to the crate's sum.
-- For bits: and, diagonal (a symmetric square adds up to its diagonal). For numbers: mono, const; odd-count: the parity of a count.
use mathlib.Core.Path.{◌≡◌, refl, sym, ◌∙◌, ap, fun_ext}
use mathlib.Core.Logic.{◌≢◌}
use mathlib.Core.Bool.{Bool, ◌&&◌}
use Prim.Native.Nat.{ℕ, zero, suc, ◌-◌, ◌*◌, ◌≤◌}
use native.Mathlib.Omega.{arith}
use Rattle.gf2.specs.Sums.{sum}
use Rattle.gf2.proofs.Monoid.{Adds, nats, sum-big, big, big-ext, big-nil, big-plus, big-swap, big-turn, big-reverse, big-point, big-mono, big-const}
use Rattle.gf2.proofs.Parity.{bits, bit, odd, odd-bit, odd-sum, big-and, big-diagonal}
use Rattle.gf2.proofs.Index.{Ix, at, at-sub, ◌⊹◌, ◌⊖◌, sub-add, sub-eq, add-c, add_right, num-at, at-num, at-add, at_all, add-z}

module _ {p : ℕ} {A : Type 0} (M : Adds A) where
  unfoldable pub Σ : (Ix p → A) → A
  Σ f = big M (suc p) (λ i. f (at i))

  pub Σ-ext : {f g : Ix p → A} → ((i : Ix p) → f i ≡ g i) → Σ f ≡ Σ g
  Σ-ext h = ap Σ (fun_ext h)

  pub Σ-big : (f : Ix p → A) (g : ℕ → A) → ((x : Ix p) → f x ≡ g x.num) → Σ f ≡ big M (suc p) g
  unfolding Σ
  Σ-big f g h = big-ext M (suc p) _ g (λ i l. h (at i) ∙ ap g (num-at i l))

  pub Σ-plus : (f g : Ix p → A) → Σ (λ i. M.plus (f i) (g i)) ≡ M.plus (Σ f) (Σ g)
  unfolding Σ
  Σ-plus f g = big-plus M (suc p) (λ i. f (at i)) (λ i. g (at i))

  pub Σ-swap : (f : Ix p → Ix p → A) → Σ (λ i. Σ (f i)) ≡ Σ (λ j. Σ (λ i. f i j))
  unfolding Σ
  Σ-swap f = big-swap M (suc p) (suc p) (λ i j. f (at i) (at j))

  pub Σ-shift : (f : Ix p → A) (k : Ix p) → Σ (λ i. f (i ⊹ k)) ≡ Σ f
  unfolding Σ
  Σ-shift f k = ap (λ z. Σ (λ i. f (i ⊹ z))) (sym (at-num k)) ∙ go k.num
    where
      go : (n : ℕ) → big M (suc p) (λ i. f (at i ⊹ at n)) ≡ big M (suc p) (λ i. f (at i))
      go zero = simp add-z
      go (suc n) =
          ap (big M (suc p)) (fun_ext (λ i. ap f (at-add i (suc n) ∙ ap at (omega arith) ∙ sym (at-add (suc i) n))))
          ∙ big-turn M (suc p) (λ i. f (at i ⊹ at n)) (ap (λ z. f (z ⊹ at n)) at_all) ∙ go n

  pub Σ-reflect : (f : Ix p → A) (k : Ix p) → Σ (λ i. f (k ⊖ i)) ≡ Σ f
  Σ-reflect f k = Σ-ext (λ i. ap f (sym (move i))) ∙ last (λ i. f (i ⊹ (k ⊖ at p))) ∙ Σ-shift f (k ⊖ at p)
    where
      move : (i : Ix p) → (at p ⊖ i) ⊹ (k ⊖ at p) ≡ k ⊖ i
      move i = sym (sub-eq k i _
          (add_right (at p ⊖ i) (k ⊖ at p) i ∙ ap (λ z. z ⊹ (k ⊖ at p)) (sub-add (at p) i) ∙ add-c (at p) (k ⊖ at p) ∙ sub-add k (at p)))

      last : (g : Ix p → A) → Σ (λ i. g (at p ⊖ i)) ≡ Σ g
      last g = unfold Σ in
          big-ext M (suc p) _ (λ i. g (at (suc p - suc i))) (λ i l. ap g (sym (at-sub p i (omega arith)) ∙ ap at (omega arith)))
          ∙ big-reverse M (suc p) (λ i. g (at i))

  -- only the index k counts
  pub Σ-point : (k : Ix p) (f : Ix p → A) → ((i : Ix p) → i ≢ k → f i ≡ M.nil) → Σ f ≡ f k
  unfolding Σ
  Σ-point k f h =
      big-point M (suc p) k.num (λ i. f (at i)) k.below (λ i l ne. h (at i) (λ e. ne (sym (num-at i l) ∙ ap (λ (x : Ix p). x.num) e)))
      ∙ ap f (at-num k)

-- Σ-swap over two kinds of indices
pub Σ-exchange : {A : Type 0} (M : Adds A) {p q : ℕ} (f : Ix p → Ix q → A) → Σ M (λ i. Σ M (f i)) ≡ Σ M (λ j. Σ M (λ i. f i j))
unfolding Σ
Σ-exchange M {p} {q} f = big-swap M (suc p) (suc q) (λ i j. f (at i) (at j))

pub Σ-nil : {A : Type 0} (p : ℕ) (M : Adds A) → Σ {p = p} M (λ i. M.nil) ≡ M.nil
unfolding Σ
Σ-nil p M = big-nil M (suc p)

pub Σ-const : (p c : ℕ) → Σ {p = p} nats (λ i. c) ≡ suc p * c
unfolding Σ
Σ-const p c = big-const (suc p) c

-- the crate's sum, as a count and modulo 2
pub sum-Σ : (p : ℕ) (f : ℕ → ℕ) → sum (suc p) f ≡ Σ {p = p} nats (λ x. f x.num)
sum-Σ p f = sum-big (suc p) f ∙ sym (Σ-big nats _ f (λ x. refl))

pub odd-Σ : (p : ℕ) (f : ℕ → ℕ) → odd (sum (suc p) f) ≡ Σ {p = p} bits (λ x. odd (f x.num))
odd-Σ p f = odd-sum (suc p) f ∙ sym (Σ-big bits _ _ (λ x. refl))

module _ {p : ℕ} where
  pub Σ-and : (c : Bool) (f : Ix p → Bool) → Σ bits (λ i. c && f i) ≡ (c && Σ bits f)
  unfolding Σ
  Σ-and c f = big-and (suc p) c (λ i. f (at i))

  pub Σ-diagonal : (f : Ix p → Ix p → Bool) → ((i j : Ix p) → f i j ≡ f j i) → Σ bits (λ i. Σ bits (f i)) ≡ Σ bits (λ i. f i i)
  unfolding Σ
  Σ-diagonal f s = big-diagonal (suc p) (λ i j. f (at i) (at j)) (λ i j. s (at i) (at j))

  pub Σ-mono : (f g : Ix p → ℕ) → ((i : Ix p) → f i ≤ g i) → Σ nats f ≤ Σ nats g
  unfolding Σ
  Σ-mono f g h = big-mono (suc p) (λ i. f (at i)) (λ i. g (at i)) (λ i l. h (at i))

  -- whether the number of ones is odd
  pub odd-count : (f : Ix p → Bool) → odd (Σ nats (λ i. bit (f i))) ≡ Σ bits f
  unfolding Σ
  odd-count f = ap odd (sym (sum-big (suc p) _)) ∙ odd-sum (suc p) _ ∙ simp odd-bit
