-- The logarithm that a type gives: at a type t of the width m = n + 1, modulo p = t·m+1 and with g = 2^t, every residue x but 0 has
-- x^t = g^s for one s below m.
-- root-power: a y with y^m = 1 is a power of g. If none of the y·g^s is 1, the powers of each with exponents below m sum to 0; but of all these
-- powers together those with one exponent sum to 0, and those with exponent 0 to m.
-- logarithm, log-power: the s of x.
use mathlib.Core.Path.{◌≡◌, refl, sym, ◌∙◌, ap, ap₂, subst}
use mathlib.Core.Logic.{◌≢◌, ◌↔◌, ◌⊎◌, inl, inr}
use Prim.Native.Nat.{ℕ, zero, suc, ◌+◌, ◌-◌, ◌*◌, ◌/◌, ◌%◌, ◌^◌, ◌<◌, ◌≤◌}
use native.Mathlib.Nat.{mod-add-div}
use native.Mathlib.Numerals.{add-one}
use native.Mathlib.Decide.{ℕ_discrete}
use native.Mathlib.Omega.{arith}
use Rattle.gf2.proofs.Monoid.{Adds, big, big-ext, big-nil, big-swap, big-turn, big-point}
use Rattle.gf2.proofs.Index.{Ix, ix-dec, ix-path, at, o, ◌⊹◌, at-eq, num-at, at-num, at-mod, at-add, at_suc, add-c, add_a, add-z}
use Rattle.gaussian.specs.Types.{Prime, IsType}
use Rattle.gaussian.proofs.PrimeField.{◌⊗◌, ◌↑◌, one, ⊗-assoc, ⊗-one, one-⊗, ⊗-zero, ⊗-plus, at-↑, ↑-at, ↑-zero, ↑-suc, ↑-plus, ↑-times, ↑-swap, ⊗-↑, one-↑, at≢o, ⊗≢o, leaves, fermat}
use Rattle.gaussian.proofs.DiscreteLogarithm.{Logarithm}
use Rattle.gaussian.proofs.Cosets.{at_least, power-one}

-- sums of residues
module _ {q : ℕ} where
  abbrev sums : Adds (Ix q)
  sums = record { nil = o; plus = ◌⊹◌; unit = add-z; comm = add-c; assoc = add_a }

  sum-times : (z : Ix q) (k : ℕ) (f : ℕ → Ix q) → z ⊗ big sums k f ≡ big sums k (λ i. z ⊗ f i)
  unfolding big
  sum-times z zero f = ⊗-zero z
  sum-times z (suc k) f = ⊗-plus z (big sums k f) (f k) ∙ ap (λ w. w ⊹ z ⊗ f k) (sum-times z k f)

  sum_ones : (k : ℕ) → big sums k (λ i. one {q = q}) ≡ at k
  unfolding big
  sum_ones zero = refl
  sum_ones (suc k) = ap (λ w. w ⊹ one) (sum_ones k) ∙ at_suc k

  -- the powers of a root of 1, which isn't 1, sum to 0: times the root their sum is the same
  geometric : Prime (suc q) → (z : Ix q) (m : ℕ) → z ↑ m ≡ one → z ≢ one → big sums m (λ i. z ↑ i) ≡ o
  geometric prime z m e n = elim (ix-dec S o) [
    | yes h ↦ h
    | no h ↦ absurd (n (leaves prime z S h turned))
  ]
    where
      S : Ix q
      S = big sums m (λ i. z ↑ i)

      turned : z ⊗ S ≡ S
      turned = sum-times z m (λ i. z ↑ i) ∙ big-ext sums m _ (λ i. z ↑ suc i) (λ i l. sym (↑-suc z i)) ∙ big-turn sums m (λ i. z ↑ i) (e ∙ sym (↑-zero z))

module _ (n t : ℕ) (wide : 1 < suc n) (ty : IsType (suc n) t) where
  abbrev q : ℕ
  q = t * suc n

  prime : Prime (suc q)
  prime = subst Prime (add-one q) ty.0

  least : suc n ≤ q
  least = at_least (suc n) t wide ty

  abbrev two : Ix q
  two = at 2

  two≢o : two ≢ o
  two≢o = at≢o 2 (omega arith) (omega (arith, least))

  g : Ix q
  g = two ↑ t

  g-at : (s : ℕ) → g ↑ s ≡ at ((2 ^ t) ^ s)
  unfolding g
  g-at s = ap (λ z. z ↑ s) (at-↑ 2 t) ∙ at-↑ (2 ^ t) s

  g-whole : g ↑ suc n ≡ one
  unfolding g
  g-whole = sym (↑-times two t (suc n)) ∙ fermat prime two two≢o

  g-inj : (s r : ℕ) → s < suc n → r < suc n → g ↑ s ≡ g ↑ r → s ≡ r
  g-inj s r ls lr e = power-one (suc n) t wide ty s r ls lr (subst (λ (p : ℕ). (2 ^ t) ^ s % p ≡ (2 ^ t) ^ r % p) (sym (add-one q)) (at-eq _ _ (sym (g-at s) ∙ e ∙ g-at r)))

  g-root : (s : ℕ) → g ↑ s ↑ suc n ≡ one
  g-root s = ↑-swap g s (suc n) ∙ ap (λ z. z ↑ s) g-whole ∙ one-↑ s

  g-mod : (k : ℕ) → g ↑ (at {p = n} k).num ≡ g ↑ k
  g-mod k =
      ap (λ j. g ↑ j) (at-mod n k) ∙ sym (⊗-one _) ∙ ap (λ z. g ↑ (k % suc n) ⊗ z) (sym (↑-times g (suc n) (k / suc n) ∙ ap (λ z. z ↑ (k / suc n)) g-whole ∙ one-↑ (k / suc n)))
      ∙ sym (↑-plus g (k % suc n) (suc n * (k / suc n))) ∙ ap (λ j. g ↑ j) (mod-add-div k (suc n))

  g-sum : (a b : Ix n) → g ↑ a.num ⊗ g ↑ b.num ≡ g ↑ (a ⊹ b).num
  g-sum a b = sym (↑-plus g a.num b.num) ∙ sym (g-mod (a.num + b.num)) ∙ ap (λ (z : Ix n). g ↑ z.num) (sym (at-add a.num b.num) ∙ ap₂ ◌⊹◌ (at-num a) (at-num b))

  -- some y·g^s with s below k is 1, or none is
  Found : Ix q → ℕ → Type 0
  Found y k = ((s : ℕ) × (s < k) × (y ⊗ g ↑ s ≡ one)) ⊎ ((s : ℕ) → s < k → y ⊗ g ↑ s ≢ one)

  find : (y : Ix q) (k : ℕ) → Found y k
  unfolding Found
  find y zero = inr (λ s l. absurd (omega arith))
  find y (suc k) = next (find y k) (ix-dec (y ⊗ g ↑ k) one)
    where
      next : Found y k → Dec (y ⊗ g ↑ k ≡ one) → Found y (suc k)
      next (inl h) d = inl (h.0, omega (arith, h.1), h.2)
      next (inr h) (yes e) = inl (k, omega arith, e)
      next (inr h) (no e) = inr (λ s l. elim (ℕ_discrete s k) [
        | yes r ↦ λ w. e (ap (λ i. y ⊗ g ↑ i) (sym r) ∙ w)
        | no r ↦ h s (omega arith)
      ])

  root-power : (y : Ix q) → y ↑ suc n ≡ one → (s : Ix n) × (y ≡ g ↑ s.num)
  unfolding Found
  root-power y e = go (find y (suc n))
    where
      term : ℕ → ℕ → Ix q
      term s i = (y ⊗ g ↑ s) ↑ i

      go : Found y (suc n) → (s : Ix n) × (y ≡ g ↑ s.num)
      go (inl h) = (
        at (suc n - h.0),
        sym (⊗-one y) ∙ ap (λ z. y ⊗ z) (sym g-whole ∙ ap (λ k. g ↑ k) split ∙ ↑-plus g h.0 (suc n - h.0))
            ∙ sym (⊗-assoc y (g ↑ h.0) (g ↑ (suc n - h.0))) ∙ ap (λ z. z ⊗ g ↑ (suc n - h.0)) h.2 ∙ one-⊗ _ ∙ sym (g-mod (suc n - h.0)),
      )
        where
          split : suc n ≡ h.0 + (suc n - h.0)
          split = omega (arith, h.1)
      go (inr h) = absurd (at≢o (suc n) (omega arith) (omega (arith, least)) (sym count ∙ none))
        where
          none : big sums (suc n) (λ s. big sums (suc n) (term s)) ≡ o
          none = big-ext sums (suc n) _ (λ s. o) (λ s l. geometric prime (y ⊗ g ↑ s) (suc n) (⊗-↑ y (g ↑ s) (suc n) ∙ ap₂ ◌⊗◌ e (g-root s) ∙ ⊗-one one) (h s l)) ∙ big-nil sums (suc n)

          column : (i : ℕ) → i < suc n → i ≢ 0 → big sums (suc n) (λ s. term s i) ≡ o
          column i l ne =
              big-ext sums (suc n) _ (λ s. y ↑ i ⊗ g ↑ i ↑ s) (λ s k. ⊗-↑ y (g ↑ s) i ∙ ap (λ z. y ↑ i ⊗ z) (↑-swap g s i))
              ∙ sym (sum-times (y ↑ i) (suc n) (λ s. g ↑ i ↑ s))
              ∙ ap (λ z. y ↑ i ⊗ z) (geometric prime (g ↑ i) (suc n) (g-root i) (λ w. ne (g-inj i 0 l (omega arith) (w ∙ sym (↑-zero g)))))
              ∙ ⊗-zero (y ↑ i)

          count : big sums (suc n) (λ s. big sums (suc n) (term s)) ≡ at (suc n)
          count = big-swap sums (suc n) (suc n) term
              ∙ big-point sums (suc n) 0 (λ i. big sums (suc n) (λ s. term s i)) (omega arith) column
              ∙ big-ext sums (suc n) _ (λ s. one) (λ s l. ↑-zero (y ⊗ g ↑ s))
              ∙ sum_ones (suc n)

  -- the s of x, and 0 for 0
  exponent : (x : Ix q) → (s : Ix n) × (x ≢ o → x ↑ t ≡ g ↑ s.num)
  exponent x = elim (ix-dec x o) [
    | yes e ↦ (o, λ k. absurd (k e))
    | no k ↦ let r = root-power (x ↑ t) (sym (↑-times x t (suc n)) ∙ fermat prime x k) in (r.0, λ h. r.1)
  ]

  is-exponent : (x : Ix q) (s : Ix n) → x ≢ o → x ↑ t ≡ g ↑ s.num → (exponent x).0 ≡ s
  is-exponent x s k e = ix-path (g-inj (exponent x).0.num s.num (exponent x).0.below s.below (sym ((exponent x).1 k) ∙ e))

  pub logarithm : Logarithm q n
  logarithm = record {
    prime = prime;
    more = omega (arith, least);
    log = λ x. (exponent x).0;
    log-product = λ x y h k. is-exponent (x ⊗ y) _ (⊗≢o prime x y h k) (⊗-↑ x y t ∙ ap₂ ◌⊗◌ ((exponent x).1 h) ((exponent y).1 k) ∙ g-sum (exponent x).0 (exponent y).0);
    log-two = is-exponent two (at 1) two≢o (unfold g in sym (ap (λ k. two ↑ t ↑ k) (num-at 1 wide) ∙ ↑-suc (two ↑ t) 0 ∙ ap (λ z. two ↑ t ⊗ z) (↑-zero (two ↑ t)) ∙ ⊗-one (two ↑ t)));
  }

  -- the logarithm of x but 0 is the s with x^t = (2^t)^s
  pub log-power : (x : Ix q) (s : Ix n) → x ≢ o → (logarithm.log x ≡ s) ↔ (x.num ^ t % suc q ≡ (2 ^ t) ^ s.num % suc q)
  unfolding logarithm
  log-power x s k = (
    λ e. (↑-at x t _).0 ((exponent x).1 k ∙ ap (λ (z : Ix n). g ↑ z.num) e ∙ g-at s.num),
    λ e. is-exponent x s k ((↑-at x t _).1 e ∙ sym (g-at s.num)),
  )
