-- Sums that count: a test as a number, constant terms, a longer sum, a test that one number passes; sums over the pairs i < j.
use mathlib.Core.Path.{◌≡◌, refl, sym, ap, ap₂, ◌∙◌}
use mathlib.Core.Bool.{Bool, true, false, ◌&&◌}
use Prim.Native.Nat.{ℕ, zero, suc, ◌+◌, ◌*◌, ◌<◌, ◌≤◌}
use native.Mathlib.Nat.{zero-mul, one-mul, suc-mul, mul-suc}
use native.Mathlib.Decide.{ℕ_discrete}
use native.Mathlib.Omega.{arith}
use lib.Dec.{ltb, eqb}
use borrow.Author.Tests.{lt-ltb, le-ltb}
use Rattle.gf2.specs.Sums.{sum}
use Rattle.gf2.specs.Operands.{choose}
use Rattle.gf2.proofs.Sums.{sum-ext, sum-none, sum-swap}
use Rattle.gf2.proofs.Monoid.{sum-big, big-const}

-- a test as a number
abbrev pub num : Bool → ℕ
num b = choose b 1 0

pub num-and : (a b : Bool) → num (a && b) ≡ num a * num b
num-and true b = sym (one-mul (num b))
num-and false b = sym (zero-mul (num b))

pub num-bit : (x : ℕ) → x < 2 → num (eqb x 1) ≡ x
num-bit zero h = refl
num-bit (suc zero) h = refl
num-bit (suc (suc x)) h = absurd (omega arith)

pub sum-const : (n c : ℕ) → sum n (λ i. c) ≡ n * c
sum-const n c = sum-big n (λ i. c) ∙ big-const n c

pub sum_mono : (f : ℕ → ℕ) (i n : ℕ) → i ≤ n → sum i f ≤ sum n f
unfolding sum
sum_mono f i zero h = let e : i ≡ 0 = omega arith in rw e (omega arith)
sum_mono f i (suc n) h = elim (ℕ_discrete i (suc n)) [
  | yes e ↦ rw e (omega arith)
  | no ne ↦ omega (arith, sum_mono f i n (omega arith))
]

-- a test that at most one number passes
pub count-one : (n : ℕ) (test : ℕ → Bool) → ((d e : ℕ) → d < n → e < n → test d ≡ true → test e ≡ true → d ≡ e) → sum n (λ d. num (test d)) ≤ 1
unfolding sum
count-one zero test h = omega arith
count-one (suc n) test h = go (test n) refl (count-one n test (λ d e ld le. h d e (omega arith) (omega arith)))
  where
    off : test n ≡ true → (d : ℕ) → d < n → (x : Bool) → test d ≡ x → num (test d) ≡ 0
    off t d l true e = absurd (omega (arith, h d n (omega arith) (omega arith) e t))
    off t d l false e = ap num e

    go : (x : Bool) → test n ≡ x → sum n (λ d. num (test d)) ≤ 1 → sum n (λ d. num (test d)) + num (test n) ≤ 1
    go true e ih = rw (e, sum-none n (λ d. num (test d)) (λ d l. off e d l (test d) refl)) (omega arith)
    go false e ih = rw e (omega arith)

-- only the terms below j
pub sum-cut : (m j : ℕ) (f : ℕ → ℕ) → j ≤ m → sum m (λ i. num (ltb i j) * f i) ≡ sum j f
unfolding sum
sum-cut zero j f h = let e : j ≡ 0 = omega arith in rw e
sum-cut (suc m) j f h = elim (ℕ_discrete j (suc m)) [
  | yes e ↦ rw e (ap₂ ◌+◌ (sum-ext m _ f (λ i l. kept i (suc m) (omega arith))) (kept m (suc m) (omega arith)))
  | no ne ↦ ap₂ ◌+◌ (sum-cut m j f (omega arith)) (ap (λ b. num b * f m) (le-ltb m j (omega arith)) ∙ zero-mul (f m)) ∙ omega arith
]
  where
    kept : (i n : ℕ) → i < n → num (ltb i n) * f i ≡ f i
    kept i n l = ap (λ b. num b * f i) (lt-ltb i n l) ∙ one-mul (f i)

-- the pairs i < j, by j and then i, or by i and then j
pub sum-triangle : (m : ℕ) (f : ℕ → ℕ → ℕ) → sum m (λ j. sum j (λ i. f i j)) ≡ sum m (λ i. sum m (λ j. num (ltb i j) * f i j))
sum-triangle m f = sum-ext m _ _ (λ j l. sym (sum-cut m j (λ i. f i j) (omega arith))) ∙ sum-swap m m (λ j i. num (ltb i j) * f i j)

pub sum_ones : (m : ℕ) → sum m (λ i. 1) ≡ m
sum_ones m = sum-const m 1 ∙ omega arith

gauss : (n : ℕ) → 2 * sum n (λ k. k) + n ≡ n * n
unfolding sum
gauss zero = refl
gauss (suc n) = omega (arith, gauss n, suc-mul n (suc n), mul-suc n n)

-- as many pairs i < j as there are
pub sum_below : (m : ℕ) → 2 * sum m (λ i. sum m (λ j. num (ltb i j))) + m ≡ m * m
sum_below m = omega (arith, ap (λ k. 2 * k + m) same, gauss m)
  where
    same : sum m (λ i. sum m (λ j. num (ltb i j))) ≡ sum m (λ j. j)
    same = sum-swap m m (λ i j. num (ltb i j)) ∙ sum-ext m _ _ (λ j l. sum-ext m _ _ (λ i k. omega arith) ∙ sum-cut m j (λ i. 1) (omega arith) ∙ sum_ones j)
