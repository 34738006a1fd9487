-- The residues modulo p = q + 1, as indices: products and powers; modulo a prime they are a field.
-- _⊗_, _↑_: product and power, and their laws. by_zero: 0 and the others apart.
-- inv: the inverse, and 0 for 0; euclid; fermat: x to the power q is 1, for every x but 0.
-- Σ-scale, conv-scale: sums and convolutions with their places multiplied.
use mathlib.Core.Path.{◌≡◌, refl, sym, ◌∙◌, ap, ap₂}
use mathlib.Core.Logic.{◌≢◌, ◌↔◌}
use mathlib.Core.Bool.{true, false, not, ◌&&◌}
use Prim.Native.Nat.{ℕ, zero, suc, ◌+◌, ◌*◌, ◌/◌, ◌%◌, ◌^◌, ◌<◌, ◌≤◌, ◌∣◌}
use native.Mathlib.Nat.{mul_comm, mul_assoc, mul-add, mul-zero, mul-one, le_refl, mod-lt, mod-mod, mod-eq_of_lt, mod-add-div, zero-mod, pow-zero, pow-succ', dvd_of_mod-eq-zero, mod-eq-zero_of_dvd}
use native.Mathlib.Decide.{ℕ_discrete}
use native.Mathlib.Omega.{arith}
use lib.Pow.{pow-add}
use Rattle.gf2.specs.Operands.{choose}
use Rattle.gf2.proofs.Monoid.{Adds, big, big-ext, big-first}
use Rattle.gf2.proofs.Parity.{bits}
use Rattle.gf2.proofs.Index.{Ix, ix-dec, at, o, ◌⊹◌, ◌⊖◌, at_same, at-eq, at-num, at-mod, at-add, at_all, sub-add, sub-eq}
use Rattle.gf2.proofs.IndexSums.{Σ, Σ-ext, Σ-plus}
use Rattle.gf2.proofs.Vector.{Vec, turn, β, lin, β-refl, β-ne}
use Rattle.gf2.proofs.Reindexing.{Σ-along}
use Rattle.gf2.proofs.Convolution.{conv}
use Rattle.gaussian.specs.Types.{Prime}
use Rattle.gaussian.proofs.Modulo.{mul-cong, mul-pow, pow-mul, pow-cong}

module _ {q : ℕ} where
  infixl 70 ◌⊗◌
  infixl 75 ◌↑◌
  pub ◌⊗◌ : Ix q → Ix q → Ix q
  x ⊗ y = at (x.num * y.num)

  pub ◌↑◌ : Ix q → ℕ → Ix q
  x ↑ n = at (x.num ^ n)

  abbrev pub one : Ix q
  one = at 1

  -- products
  pub at_mul : (a b : ℕ) → at a ⊗ at b ≡ at (a * b)
  unfolding ◌⊗◌
  at_mul a b = at_same _ _ (rw (at-mod q a, at-mod q b) (mul-cong (a % suc q) a (b % suc q) b (suc q) (mod-mod a (suc q)) (mod-mod b (suc q))))

  pub ⊗-comm : (x y : Ix q) → x ⊗ y ≡ y ⊗ x
  unfolding ◌⊗◌
  ⊗-comm x y = ap at (mul_comm x.num y.num)

  pub ⊗-assoc : (x y z : Ix q) → (x ⊗ y) ⊗ z ≡ x ⊗ (y ⊗ z)
  ⊗-assoc x y z =
      ap₂ ◌⊗◌ (ap₂ ◌⊗◌ (sym (at-num x)) (sym (at-num y)) ∙ at_mul x.num y.num) (sym (at-num z)) ∙ at_mul (x.num * y.num) z.num
      ∙ ap at (mul_assoc x.num y.num z.num)
      ∙ sym (ap₂ ◌⊗◌ (sym (at-num x)) (ap₂ ◌⊗◌ (sym (at-num y)) (sym (at-num z)) ∙ at_mul y.num z.num) ∙ at_mul x.num (y.num * z.num))

  pub ⊗-one : (x : Ix q) → x ⊗ one ≡ x
  ⊗-one x = ap (λ z. z ⊗ one) (sym (at-num x)) ∙ at_mul x.num 1 ∙ ap at (mul-one x.num) ∙ at-num x

  pub one-⊗ : (x : Ix q) → one ⊗ x ≡ x
  one-⊗ x = ⊗-comm one x ∙ ⊗-one x

  pub ⊗-zero : (x : Ix q) → x ⊗ o ≡ o
  ⊗-zero x = ap (λ z. z ⊗ o) (sym (at-num x)) ∙ at_mul x.num 0 ∙ ap at (mul-zero x.num)

  pub ⊗-plus : (x y z : Ix q) → x ⊗ (y ⊹ z) ≡ x ⊗ y ⊹ x ⊗ z
  ⊗-plus x y z =
      ap₂ ◌⊗◌ (sym (at-num x)) (ap₂ ◌⊹◌ (sym (at-num y)) (sym (at-num z)) ∙ at-add y.num z.num) ∙ at_mul x.num (y.num + z.num)
      ∙ ap at (mul-add x.num y.num z.num)
      ∙ sym (at-add (x.num * y.num) (x.num * z.num)) ∙ (unfold ◌⊗◌ in refl)

  pub ⊗-minus : (x y z : Ix q) → x ⊗ (y ⊖ z) ≡ x ⊗ y ⊖ x ⊗ z
  ⊗-minus x y z = sym (sub-eq (x ⊗ y) (x ⊗ z) (x ⊗ (y ⊖ z)) (sym (⊗-plus x (y ⊖ z) z) ∙ ap (λ w. x ⊗ w) (sub-add y z)))

  -- powers
  pub at-↑ : (a n : ℕ) → at a ↑ n ≡ at (a ^ n)
  unfolding ◌↑◌
  at-↑ a n = at_same _ _ (pow-cong (at {p = q} a).num a (suc q) n (ap (λ z. z % suc q) (at-mod q a) ∙ mod-mod a (suc q)))

  pub ↑-at : (x : Ix q) (n k : ℕ) → (x ↑ n ≡ at k) ↔ (x.num ^ n % suc q ≡ k % suc q)
  unfolding ◌↑◌
  ↑-at x n k = (at-eq (x.num ^ n) k, at_same (x.num ^ n) k)

  pub ↑-zero : (x : Ix q) → x ↑ 0 ≡ one
  unfolding ◌↑◌
  ↑-zero x = ap at (pow-zero x.num)

  pub ↑-suc : (x : Ix q) (i : ℕ) → x ↑ suc i ≡ x ⊗ x ↑ i
  unfolding ◌↑◌
  ↑-suc x i = ap at (pow-succ' x.num i) ∙ sym (at_mul x.num (x.num ^ i)) ∙ ap (λ z. z ⊗ at (x.num ^ i)) (at-num x)

  pub ↑-plus : (x : Ix q) (i j : ℕ) → x ↑ (i + j) ≡ x ↑ i ⊗ x ↑ j
  unfolding ◌↑◌
  ↑-plus x i j = ap at (pow-add x.num i j) ∙ sym (at_mul (x.num ^ i) (x.num ^ j))

  pub ↑-times : (x : Ix q) (i j : ℕ) → x ↑ (i * j) ≡ x ↑ i ↑ j
  ↑-times x i j = unfold ◌↑◌ in ap at (pow-mul x.num i j) ∙ sym (at-↑ (x.num ^ i) j)

  pub ↑-swap : (x : Ix q) (i j : ℕ) → x ↑ i ↑ j ≡ x ↑ j ↑ i
  ↑-swap x i j = sym (↑-times x i j) ∙ ap (λ n. x ↑ n) (mul_comm i j) ∙ ↑-times x j i

  pub ⊗-↑ : (x y : Ix q) (n : ℕ) → (x ⊗ y) ↑ n ≡ x ↑ n ⊗ y ↑ n
  unfolding ◌⊗◌ ◌↑◌
  ⊗-↑ x y n = at-↑ (x.num * y.num) n ∙ ap at (mul-pow x.num y.num n) ∙ sym (at_mul (x.num ^ n) (y.num ^ n))

  pub one-↑ : (n : ℕ) → one ↑ n ≡ one
  one-↑ zero = ↑-zero one
  one-↑ (suc n) = ↑-suc one n ∙ one-⊗ (one ↑ n) ∙ one-↑ n

  -- 0 and the others
  pub at≢o : (a : ℕ) → 0 < a → a < suc q → at {p = q} a ≢ o
  at≢o a h l e = absurd (omega (arith, sym (mod-eq_of_lt l) ∙ at-eq a 0 e ∙ zero-mod (suc q)))

  num_pos : (x : Ix q) → x ≢ o → 0 < x.num
  num_pos x n = go x.num refl
    where
      go : (k : ℕ) → x.num ≡ k → 0 < k
      go zero e = absurd (n (sym (at-num x) ∙ ap at e))
      go (suc k) e = omega arith

  pub by_zero : {A : Type 0} (f h : Ix q → A) → f o ≡ h o → ((x : Ix q) → x ≢ o → f x ≡ h x) → (x : Ix q) → f x ≡ h x
  by_zero f h e k x = elim (ix-dec x o) [
    | yes w ↦ ap f w ∙ e ∙ ap h (sym w)
    | no w ↦ k x w
  ]

  unfoldable pub nonzero : Vec q
  nonzero x = not (β o x)

  pub nonzero-o : (x : Ix q) → x ≡ o → nonzero x ≡ false
  unfolding nonzero
  nonzero-o x e = ap nonzero e ∙ ap not (β-refl o)

  pub nonzero-at : (x : Ix q) → x ≢ o → nonzero x ≡ true
  unfolding nonzero
  nonzero-at x n = ap not (β-ne o x n)

  -- the term of 0, and those of 1 .. q
  pub Σ-first : {A : Type 0} (M : Adds A) (f : Ix q → A) (a : A) → ((x : Ix q) → x ≢ o → f x ≡ a) → Σ M f ≡ M.plus (f o) (big M q (λ i. a))
  unfolding Σ
  Σ-first M f a h = big-first M q (λ i. f (at i)) ∙ ap (M.plus (f o)) (big-ext M q _ (λ i. a) (λ i l. h (at (suc i)) (at≢o (suc i) (omega arith) (omega arith))))

-- a prime modulus
module _ {q : ℕ} (prime : Prime (suc q)) where
  pub one≢o : one {q = q} ≢ o
  one≢o = at≢o 1 (omega arith) prime.0

  -- p % a and a times p / a add up to p: so the inverse of a comes from that of p % a
  rest : (a : ℕ) → at {p = q} (suc q % a) ≡ o ⊖ at a ⊗ at (suc q / a)
  rest a = sym (sub-eq o (at a ⊗ at (suc q / a)) (at (suc q % a)) (ap (λ z. at (suc q % a) ⊹ z) (at_mul a (suc q / a)) ∙ at-add (suc q % a) (a * (suc q / a)) ∙ ap at (mod-add-div (suc q) a) ∙ at_all))

  from-rest : (x y z : Ix q) → (o ⊖ x ⊗ y) ⊗ z ≡ one → x ⊗ (o ⊖ y ⊗ z) ≡ one
  from-rest x y z e =
      ⊗-minus x o (y ⊗ z) ∙ ap₂ ◌⊖◌ (⊗-zero x) (sym (⊗-assoc x y z))
      ∙ sym (⊗-comm (o ⊖ x ⊗ y) z ∙ ⊗-minus z o (x ⊗ y) ∙ ap₂ ◌⊖◌ (⊗-zero z) (⊗-comm z (x ⊗ y))) ∙ e

  inverse : (f a : ℕ) → a ≤ f → 0 < a → a < suc q → (y : Ix q) × (at a ⊗ y ≡ one)
  inverse zero a h h₁ h₂ = absurd (omega arith)
  inverse (suc f) a h h₁ h₂ = elim (ℕ_discrete a 1) [
    | yes e ↦ (one, ap (λ k. at k ⊗ one) e ∙ ⊗-one one)
    | no e ↦
        let less = mod-lt (suc q) h₁ in
        let some = prime.1 a (omega arith) h₂ in
        let i = inverse f (suc q % a) (omega arith) (omega arith) (omega arith) in
        (o ⊖ at (suc q / a) ⊗ i.0, from-rest (at a) (at (suc q / a)) i.0 (ap (λ x. x ⊗ i.0) (sym (rest a)) ∙ i.1))
  ]

  inverse-of : (x : Ix q) → (y : Ix q) × (x ≢ o → x ⊗ y ≡ one) × (x ≡ o → y ≡ o)
  inverse-of x = elim (ix-dec x o) [
    | yes e ↦ (o, λ n. absurd (n e), λ h. refl)
    | no n ↦
        let i = inverse x.num x.num (le_refl x.num) (num_pos x n) x.below in
        (i.0, λ h. ap (λ z. z ⊗ i.0) (sym (at-num x)) ∙ i.1, λ h. absurd (n h))
  ]

  pub inv : Ix q → Ix q
  inv x = (inverse-of x).0

  pub inv-o : inv o ≡ o
  unfolding inv
  inv-o = (inverse-of o).2 refl

  pub ⊗-inv : (x : Ix q) → x ≢ o → x ⊗ inv x ≡ one
  unfolding inv
  ⊗-inv x = (inverse-of x).1

  pub cancel : (x y : Ix q) → x ≢ o → inv x ⊗ (x ⊗ y) ≡ y
  cancel x y n = sym (⊗-assoc (inv x) x y) ∙ ap (λ z. z ⊗ y) (⊗-comm (inv x) x ∙ ⊗-inv x n) ∙ one-⊗ y

  pub uncancel : (x y : Ix q) → x ≢ o → x ⊗ (inv x ⊗ y) ≡ y
  uncancel x y n = sym (⊗-assoc x (inv x) y) ∙ ap (λ z. z ⊗ y) (⊗-inv x n) ∙ one-⊗ y

  pub ⊗≢o : (x y : Ix q) → x ≢ o → y ≢ o → x ⊗ y ≢ o
  ⊗≢o x y n k e = k (sym (cancel x y n) ∙ ap (λ z. inv x ⊗ z) e ∙ ⊗-zero (inv x))

  pub inv≢o : (x : Ix q) → x ≢ o → inv x ≢ o
  inv≢o x n e = one≢o (sym (⊗-inv x n) ∙ ap (λ z. x ⊗ z) e ∙ ⊗-zero x)

  pub inv-inv : (x : Ix q) → inv (inv x) ≡ x
  inv-inv = by_zero (λ x. inv (inv x)) (λ x. x) (ap inv inv-o ∙ inv-o) (λ x n.
      sym (⊗-one _) ∙ ap (λ z. inv (inv x) ⊗ z) (sym (⊗-inv x n) ∙ ⊗-comm x (inv x)) ∙ cancel (inv x) x (inv≢o x n))

  -- only 1 leaves a product as it was
  pub leaves : (z s : Ix q) → s ≢ o → z ⊗ s ≡ s → z ≡ one
  leaves z s n e = sym (⊗-one z) ∙ ap (λ w. z ⊗ w) (sym (⊗-inv s n)) ∙ sym (⊗-assoc z s (inv s)) ∙ ap (λ w. w ⊗ inv s) e ∙ ⊗-inv s n

  -- places multiplied by u
  pub Σ-scale : {A : Type 0} (M : Adds A) (u : Ix q) → u ≢ o → (a : Ix q → A) → Σ M (λ x. a (u ⊗ x)) ≡ Σ M a
  Σ-scale M u n a = Σ-along M (λ x. u ⊗ x) (λ x. inv u ⊗ x) (λ x. cancel u x n) (λ x. uncancel u x n) a

  pub conv-scale : (u : Ix q) → u ≢ o → (f h : Vec q) (y : Ix q) → conv f h (u ⊗ y) ≡ conv (λ x. f (u ⊗ x)) (λ x. h (u ⊗ x)) y
  unfolding conv lin turn
  conv-scale u n f h y = sym (Σ-scale bits u n (λ i. f i && h (u ⊗ y ⊖ i))) ∙ Σ-ext bits (λ i. ap (λ z. f (u ⊗ i) && h z) (sym (⊗-minus u y i)))

  -- Fermat: the product of all x but 0 is that of all u x, which has u in it q times more
  abbrev products : Adds (Ix q)
  products = record { nil = one; plus = ◌⊗◌; unit = ⊗-one; comm = ⊗-comm; assoc = ⊗-assoc }

  product≢o : (k : ℕ) (f : ℕ → Ix q) → ((i : ℕ) → f i ≢ o) → big products k f ≢ o
  unfolding big
  product≢o zero f h = one≢o
  product≢o (suc k) f h = ⊗≢o (big products k f) (f k) (product≢o k f h) (h k)

  product-same : (k : ℕ) (u : Ix q) → big products k (λ i. u) ≡ u ↑ k
  unfolding big
  product-same zero u = sym (↑-zero u)
  product-same (suc k) u = ap (λ z. z ⊗ u) (product-same k u) ∙ ⊗-comm (u ↑ k) u ∙ sym (↑-suc u k)

  -- y, and 1 at the place 0
  factor : Ix q → Ix q → Ix q
  factor x y = choose (nonzero x) y one

  factor-o : (y : Ix q) → factor o y ≡ one
  unfolding factor
  factor-o y = ap (λ b. choose b y one) (nonzero-o o refl)

  factor-at : (x y : Ix q) → x ≢ o → factor x y ≡ y
  unfolding factor
  factor-at x y n = ap (λ b. choose b y one) (nonzero-at x n)

  pub fermat : (u : Ix q) → u ≢ o → u ↑ q ≡ one
  fermat u n = leaves (u ↑ q) all (product≢o (suc q) (λ i. factor (at i) (at i)) (λ i. some (at i))) (ap (λ z. z ⊗ all) (sym powers) ∙ whole)
    where
      all : Ix q
      all = big products (suc q) (λ i. factor (at i) (at i))

      some : (x : Ix q) → factor x x ≢ o
      some x = elim (ix-dec x o) [
        | yes e ↦ λ z. one≢o (sym (factor-o x) ∙ ap (λ y. factor y x) (sym e) ∙ z)
        | no k ↦ λ z. k (sym (factor-at x x k) ∙ z)
      ]

      powers : Σ products (λ x. factor x u) ≡ u ↑ q
      powers = Σ-first products (λ x. factor x u) u (λ x k. factor-at x u k) ∙ ap₂ ◌⊗◌ (factor-o u) (product-same q u) ∙ one-⊗ (u ↑ q)

      each : (x : Ix q) → factor x u ⊗ factor x x ≡ factor (u ⊗ x) (u ⊗ x)
      each = by_zero _ _
          (ap₂ ◌⊗◌ (factor-o u) (factor-o o) ∙ ⊗-one one ∙ sym (ap (λ z. factor z z) (⊗-zero u) ∙ factor-o o))
          (λ x k. ap₂ ◌⊗◌ (factor-at x u k) (factor-at x x k) ∙ sym (factor-at (u ⊗ x) (u ⊗ x) (⊗≢o u x n k)))

      whole : Σ products (λ x. factor x u) ⊗ all ≡ all
      whole = unfold Σ in sym (Σ-plus products (λ x. factor x u) (λ x. factor x x)) ∙ Σ-ext products each ∙ Σ-scale products u n (λ x. factor x x)

-- a prime that divides a product of a lesser number, not 0, divides the other factor
pub euclid : (p a b : ℕ) → Prime p → 0 < a → a < p → p ∣ a * b → p ∣ b
euclid zero a b prime h l d = absurd (omega arith)
euclid (suc q) a b prime h l d = dvd_of_mod-eq-zero (suc q) (at-eq b 0 none ∙ zero-mod (suc q))
  where
    none : at {p = q} b ≡ o
    none = sym (cancel prime (at a) (at b) (at≢o a h l))
        ∙ ap (λ z. inv prime (at a) ⊗ z) (at_mul a b ∙ at_same (a * b) 0 (mod-eq-zero_of_dvd (suc q) d ∙ sym (zero-mod (suc q))))
        ∙ ⊗-zero (inv prime (at a))
