-- Sums of n terms in any commutative monoid.
-- Adds: a commutative monoid; nats: the numbers.
-- big M n f: f 0 + .. + f (n - 1).
-- Laws: ext, nil, plus, swap, first, turn (one cyclic turn), reverse, append, point (one term counts), square (diagonal and pairs).
-- For numbers: mono, const.
use mathlib.Core.Path.{◌≡◌, refl, sym, ◌∙◌, ap, ap₂}
use mathlib.Core.Logic.{◌≢◌, ⊎_elim}
use Prim.Native.Nat.{ℕ, zero, suc, ◌+◌, ◌-◌, ◌*◌, ◌<◌, ◌≤◌}
use native.Mathlib.Nat.{add-zero, add-suc, add_comm, add_assoc, zero-mul, suc-mul, eq-or-lt_of_le}
use native.Mathlib.Omega.{arith}
use Rattle.gf2.specs.Sums.{sum}

pub record Adds (A : Type 0) : Type 0 where
  pub nil : A
  pub plus : A → A → A
  pub unit : (a : A) → plus a nil ≡ a
  pub comm : (a b : A) → plus a b ≡ plus b a
  pub assoc : (a b c : A) → plus (plus a b) c ≡ plus a (plus b c)

abbrev pub nats : Adds ℕ
nats = record { nil = 0; plus = ◌+◌; unit = add-zero; comm = add_comm; assoc = add_assoc }

unfoldable pub big : {A : Type 0} → Adds A → ℕ → (ℕ → A) → A
big M zero f = M.nil
big M (suc n) f = M.plus (big M n f) (f n)

pub sum-big : (n : ℕ) (f : ℕ → ℕ) → sum n f ≡ big nats n f
unfolding sum big
sum-big zero f = refl
sum-big (suc n) f = rw (sum-big n f)

module _ {A : Type 0} (M : Adds A) where
  infixl 65 ◌⋆◌
  abbrev ◌⋆◌ : A → A → A
  a ⋆ b = M.plus a b

  left : (a b c : A) → a ⋆ (b ⋆ c) ≡ b ⋆ (a ⋆ c)
  left a b c = sym (M.assoc a b c) ∙ ap (λ z. z ⋆ c) (M.comm a b) ∙ M.assoc b a c

  four : (a b c d : A) → (a ⋆ b) ⋆ (c ⋆ d) ≡ (a ⋆ c) ⋆ (b ⋆ d)
  four a b c d = simp (M.assoc, left)

  five : (a b c d e : A) → ((a ⋆ b) ⋆ c) ⋆ (d ⋆ e) ≡ (a ⋆ e) ⋆ (b ⋆ (c ⋆ d))
  five a b c d e = simp (M.assoc, M.comm, left)

  pub big-ext : (n : ℕ) (f g : ℕ → A) → ((i : ℕ) → i < n → f i ≡ g i) → big M n f ≡ big M n g
  unfolding big
  big-ext zero f g h = refl
  big-ext (suc n) f g h = ap₂ (λ a b. a ⋆ b) (big-ext n f g (λ i l. h i (omega arith))) (h n (omega arith))

  pub big-nil : (n : ℕ) → big M n (λ i. M.nil) ≡ M.nil
  unfolding big
  big-nil zero = refl
  big-nil (suc n) = M.unit _ ∙ big-nil n

  pub big-plus : (n : ℕ) (f g : ℕ → A) → big M n (λ i. f i ⋆ g i) ≡ big M n f ⋆ big M n g
  unfolding big
  big-plus zero f g = sym (M.unit M.nil)
  big-plus (suc n) f g = ap (λ z. z ⋆ (f n ⋆ g n)) (big-plus n f g) ∙ four (big M n f) (big M n g) (f n) (g n)

  pub big-swap : (n k : ℕ) (f : ℕ → ℕ → A) → big M n (λ i. big M k (f i)) ≡ big M k (λ j. big M n (λ i. f i j))
  unfolding big
  big-swap zero k f = sym (big-nil k)
  big-swap (suc n) k f = ap (λ z. z ⋆ big M k (f n)) (big-swap n k f) ∙ sym (big-plus k (λ j. big M n (λ i. f i j)) (f n))

  pub big-first : (n : ℕ) (f : ℕ → A) → big M (suc n) f ≡ f zero ⋆ big M n (λ i. f (suc i))
  unfolding big
  big-first zero f = M.comm M.nil (f zero)
  big-first (suc n) f = ap (λ z. z ⋆ f (suc n)) (big-first n f) ∙ M.assoc (f zero) (big M n (λ i. f (suc i))) (f (suc n))

  pub big-turn : (n : ℕ) (f : ℕ → A) → f n ≡ f zero → big M n (λ i. f (suc i)) ≡ big M n f
  unfolding big
  big-turn zero f e = refl
  big-turn (suc n) f e = ap (λ z. big M n (λ i. f (suc i)) ⋆ z) e ∙ M.comm _ (f zero) ∙ sym (big-first n f)

  pub big-reverse : (n : ℕ) (f : ℕ → A) → big M n (λ i. f (n - suc i)) ≡ big M n f
  unfolding big
  big-reverse zero f = refl
  big-reverse (suc n) f =
      big-first n (λ i. f (suc n - suc i))
      ∙ ap₂ (λ a b. a ⋆ b) (ap f (omega arith)) (big-ext n _ (λ i. f (n - suc i)) (λ i l. ap f (omega arith)) ∙ big-reverse n f)
      ∙ M.comm (f n) (big M n f)

  pub big-append : (n k : ℕ) (f : ℕ → A) → big M (n + k) f ≡ big M n f ⋆ big M k (λ i. f (n + i))
  unfolding big
  big-append n zero f = ap (λ z. big M z f) (add-zero n) ∙ sym (M.unit _)
  big-append n (suc k) f = ap (λ z. big M z f) (add-suc n k) ∙ ap (λ z. z ⋆ f (n + k)) (big-append n k f) ∙ M.assoc _ _ _

  pub big-point : (n k : ℕ) (f : ℕ → A) → k < n → ((i : ℕ) → i < n → i ≢ k → f i ≡ M.nil) → big M n f ≡ f k
  unfolding big
  big-point zero k f l h = absurd (omega arith)
  big-point (suc n) k f l h = ⊎_elim
      (λ (e : k ≡ n). ap (λ z. z ⋆ f n) (big-ext n f (λ i. M.nil) (λ i g. h i (omega arith) (omega arith)) ∙ big-nil n)
      ∙ M.comm M.nil (f n) ∙ M.unit (f n) ∙ ap f (sym e))
      (λ (g : k < n). ap₂ (λ a b. a ⋆ b) (big-point n k f g (λ i g ne. h i (omega arith) ne)) (h n (omega arith) (omega arith)) ∙ M.unit (f k))
      (eq-or-lt_of_le {n = k} {m = n} (omega arith))

  pub big-square : (n : ℕ) (f : ℕ → ℕ → A) →
      big M n (λ i. big M n (f i)) ≡ big M n (λ i. f i i) ⋆ big M n (λ j. big M j (λ i. f i j ⋆ f j i))
  unfolding big
  big-square zero f = sym (M.unit M.nil)
  big-square (suc n) f =
      ap (λ z. z ⋆ (big M n (f n) ⋆ f n n)) (big-plus n (λ i. big M n (f i)) (λ i. f i n) ∙ ap (λ z. z ⋆ big M n (λ i. f i n)) (big-square n f))
      ∙ five (big M n (λ i. f i i)) (big M n (λ j. big M j (λ i. f i j ⋆ f j i))) (big M n (λ i. f i n)) (big M n (f n)) (f n n)
      ∙ ap (λ z. (big M n (λ i. f i i) ⋆ f n n) ⋆ (big M n (λ j. big M j (λ i. f i j ⋆ f j i)) ⋆ z)) (sym (big-plus n (λ i. f i n) (f n)))

-- sums of numbers
pub big-mono : (n : ℕ) (f g : ℕ → ℕ) → ((i : ℕ) → i < n → f i ≤ g i) → big nats n f ≤ big nats n g
unfolding big
big-mono zero f g h = omega arith
big-mono (suc n) f g h = omega (arith, big-mono n f g (λ i l. h i (omega arith)), h n (omega arith))

pub big-const : (n c : ℕ) → big nats n (λ i. c) ≡ n * c
unfolding big
big-const zero c = sym (zero-mul c)
big-const (suc n) c = rw (suc-mul, big-const n c)
