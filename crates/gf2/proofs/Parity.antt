-- Bits added modulo 2, and the parity of a number.
-- _⊕_: the sum of two bits and its laws; xor·ac regroups such sums; bits: its monoid.
-- big-and, big-diagonal, big-fold: sums of n bits.
-- bit: a bit as a number; odd: a number's parity, with odd of sum, product, remainder and of the crate's sum.
use mathlib.Core.Path.{◌≡◌, refl, sym, ◌∙◌, ap, ap₂}
use mathlib.Core.Logic.{◌↔◌}
use mathlib.Core.Bool.{Bool, true, false, not, ◌&&◌, not-not, and_comm, and-false, and_assoc, true≢false}
use Prim.Native.Nat.{ℕ, zero, suc, ◌+◌, ◌-◌, ◌*◌, ◌/◌, ◌%◌}
use native.Mathlib.Nat.{add-zero, add-suc, mul-zero, mul-suc, mod-mod}
use native.Mathlib.Omega.{arith}
use Rattle.gf2.specs.Sums.{sum}
use Rattle.gf2.proofs.Monoid.{Adds, big, big-ext, big-nil, big-first, big-square}

infixl 32 ◌⊕◌
abbrev pub ◌⊕◌ : Bool → Bool → Bool
true ⊕ b = not b
false ⊕ b = b

pub xor-zero : (a : Bool) → a ⊕ false ≡ a
xor-zero true = refl
xor-zero false = refl

pub xor_self : (a : Bool) → a ⊕ a ≡ false
xor_self true = refl
xor_self false = refl

pub xor_comm : (a b : Bool) → a ⊕ b ≡ b ⊕ a
xor_comm true true = refl
xor_comm true false = refl
xor_comm false true = refl
xor_comm false false = refl

pub xor_assoc : (a b c : Bool) → a ⊕ b ⊕ c ≡ a ⊕ (b ⊕ c)
xor_assoc false b c = refl
xor_assoc true false c = refl
xor_assoc true true true = refl
xor_assoc true true false = refl

pub xor-left : (a b c : Bool) → a ⊕ (b ⊕ c) ≡ b ⊕ (a ⊕ c)
xor-left a b c = rw (← xor_assoc, xor_comm a b, xor_assoc)

pub xor-cancel : (a b : Bool) → a ⊕ (a ⊕ b) ≡ b
xor-cancel a b = rw (← xor_assoc, xor_self)

pub ruleset xor·ac = (xor_assoc, xor_comm, xor-left)

pub and_xor : (a b c : Bool) → (a && (b ⊕ c)) ≡ (a && b) ⊕ (a && c)
and_xor true b c = refl
and_xor false b c = refl

pub xor-and : (a b c : Bool) → ((a ⊕ b) && c) ≡ (a && c) ⊕ (b && c)
xor-and a b c = simp (and_comm, and_xor)

pub and_left : (a b c : Bool) → (a && (b && c)) ≡ (b && (a && c))
and_left a b c = rw (← and_assoc, and_comm a b, and_assoc)

pub and_both : (a b : Bool) → (a && b) ≡ true → (a ≡ true) × (b ≡ true)
and_both true b e = (refl, e)
and_both false b e = absurd (true≢false (sym e))

pub and-cong : (c : Bool) {x y : Bool} → (c ≡ true → x ≡ y) → (c && x) ≡ (c && y)
and-cong true h = h refl
and-cong false h = refl

pub bool-ext : (a b : Bool) → (a ≡ true → b ≡ true) → (b ≡ true → a ≡ true) → a ≡ b
bool-ext true b f g = sym (f refl)
bool-ext false true f g = g refl
bool-ext false false f g = refl

abbrev pub bits : Adds Bool
bits = record { nil = false; plus = ◌⊕◌; unit = xor-zero; comm = xor_comm; assoc = xor_assoc }

pub big-and : (n : ℕ) (c : Bool) (f : ℕ → Bool) → big bits n (λ i. c && f i) ≡ (c && big bits n f)
big-and n true f = refl
big-and n false f = big-nil bits n

-- a symmetric square adds up to its diagonal
pub big-diagonal : (n : ℕ) (f : ℕ → ℕ → Bool) → ((i j : ℕ) → f i j ≡ f j i) → big bits n (λ i. big bits n (f i)) ≡ big bits n (λ i. f i i)
big-diagonal n f s = big-square bits n f ∙ ap (λ z. big bits n (λ i. f i i) ⊕ z) none ∙ xor-zero _
  where
    pairs : (j : ℕ) → big bits j (λ i. f i j ⊕ f j i) ≡ false
    pairs j = big-ext bits j _ (λ i. false) (λ i l. ap (λ z. z ⊕ f j i) (s i j) ∙ xor_self (f j i)) ∙ big-nil bits j

    none : big bits n (λ j. big bits j (λ i. f i j ⊕ f j i)) ≡ false
    none = big-ext bits n _ (λ j. false) (λ j l. pairs j) ∙ big-nil bits n

abbrev pub bit : Bool → ℕ
bit true = 1
bit false = 0

pub bit_inj : (a b : Bool) → bit a ≡ bit b → a ≡ b
bit_inj true true e = refl
bit_inj true false e = absurd (omega arith)
bit_inj false true e = absurd (omega arith)
bit_inj false false e = refl

unfoldable pub odd : ℕ → Bool
odd zero = false
odd (suc n) = not (odd n)

pub odd-zero : odd 0 ≡ false
unfolding odd
odd-zero = refl

pub odd-one : odd 1 ≡ true
unfolding odd
odd-one = refl

pub bit-odd : (a : ℕ) → bit (odd a) ≡ a % 2
unfolding odd
bit-odd zero = refl
bit-odd (suc a) = flip (odd a) ∙ omega (arith, bit-odd a)
  where
    flip : (x : Bool) → bit (not x) ≡ suc (bit x) % 2
    flip true = refl
    flip false = refl

pub odd-true : (a : ℕ) → odd a ≡ true → a % 2 ≡ 1
odd-true a e = sym (bit-odd a) ∙ ap bit e

pub odd-bit : (b : Bool) → odd (bit b) ≡ b
odd-bit true = odd-one
odd-bit false = odd-zero

pub odd-eq : (a b : ℕ) → (odd a ≡ odd b) ↔ (a % 2 ≡ b % 2)
odd-eq a b = (λ e. sym (bit-odd a) ∙ ap bit e ∙ bit-odd b, λ e. bit_inj (odd a) (odd b) (bit-odd a ∙ e ∙ sym (bit-odd b)))

pub odd-mod : (a : ℕ) → odd (a % 2) ≡ odd a
odd-mod a = (odd-eq (a % 2) a).1 (mod-mod a 2)

pub odd-add : (a b : ℕ) → odd (a + b) ≡ odd a ⊕ odd b
unfolding odd
odd-add a zero = ap odd (add-zero a) ∙ sym (xor-zero (odd a))
odd-add a (suc b) = ap odd (add-suc a b) ∙ ap not (odd-add a b) ∙ step (odd a) (odd b)
  where
    step : (x y : Bool) → not (x ⊕ y) ≡ x ⊕ not y
    step true y = refl
    step false y = refl

pub odd-mul : (a b : ℕ) → odd (a * b) ≡ (odd a && odd b)
odd-mul a zero = ap odd (mul-zero a) ∙ (unfold odd in sym (and-false (odd a)))
odd-mul a (suc b) = ap odd (mul-suc a b) ∙ odd-add (a * b) a ∙ ap (λ z. z ⊕ odd a) (odd-mul a b) ∙ (unfold odd in step (odd a) (odd b))
  where
    step : (x y : Bool) → (x && y) ⊕ x ≡ (x && not y)
    step true true = refl
    step true false = refl
    step false y = refl

pub odd-sum : (n : ℕ) (f : ℕ → ℕ) → odd (sum n f) ≡ big bits n (λ i. odd (f i))
unfolding sum big
odd-sum zero f = odd-zero
odd-sum (suc n) f = odd-add (sum n f) (f n) ∙ ap (λ z. z ⊕ odd (f n)) (odd-sum n f)

-- the first term with the last, and so on; an odd number of terms leaves the middle one
pub big-fold : (n : ℕ) (f : ℕ → Bool) → big bits n f ≡ big bits (n / 2) (λ i. f i ⊕ f (n - suc i)) ⊕ (odd n && f (n / 2))
unfolding big odd
big-fold zero f = refl
big-fold (suc zero) f = refl
big-fold (suc (suc n)) f =
    ap (λ z. z ⊕ f (suc n)) (big-first bits n f ∙ ap (λ z. f zero ⊕ z) (big-fold n (λ i. f (suc i))))
    ∙ rw (half n, not-not (odd n)) (regroup (f zero) _ (odd n && f (suc (n / 2))) (f (suc n)) ∙ ap (λ z. z ⊕ (odd n && f (suc (n / 2)))) (sym pairs))
  where
    half : (n : ℕ) → suc (suc n) / 2 ≡ suc (n / 2)
    half n = omega arith

    regroup : (a b c d : Bool) → (a ⊕ (b ⊕ c)) ⊕ d ≡ ((a ⊕ d) ⊕ b) ⊕ c
    regroup a b c d = simp xor·ac

    pairs : big bits (suc (n / 2)) (λ i. f i ⊕ f (suc (suc n) - suc i)) ≡ (f zero ⊕ f (suc n)) ⊕ big bits (n / 2) (λ i. f (suc i) ⊕ f (suc (n - suc i)))
    pairs = big-first bits (n / 2) (λ i. f i ⊕ f (suc (suc n) - suc i))
        ∙ ap₂ ◌⊕◌ (ap (λ z. f zero ⊕ f z) (omega arith)) (big-ext bits (n / 2) _ _ (λ i l. ap (λ z. f (suc i) ⊕ f z) (omega arith)))
