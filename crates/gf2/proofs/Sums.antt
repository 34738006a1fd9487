-- Laws of `sum` and `every`.
-- Sums: equal terms, terms added, no term but 0, none, one and one more, no term above a bound, a sum split at a place, two sums exchanged, a sum by digits, a sum modulo 2,
-- a sum of bits, and the ones of a number as the sum of its bits.
-- Tests: a test that holds of every number below a bound, both ways; a search for one of which it doesn't.
use mathlib.Core.Path.{◌≡◌, refl, sym, ap, ap₂, fun_ext, ◌∙◌}
use mathlib.Core.Bool.{Bool, true, false, ◌&&◌, true≢false}
use Prim.Native.Nat.{ℕ, zero, suc, ◌+◌, ◌-◌, ◌*◌, ◌/◌, ◌%◌, ◌^◌, ◌<◌, ◌≤◌}
use native.Mathlib.Decide.{ℕ_discrete}
use native.Mathlib.Nat.{add-zero, zero-add, zero-mul, suc-mul, pow-suc}
use native.Mathlib.Numerals.{add-one}
use native.Mathlib.Omega.{arith}
use lib.Pow.{shr-shr}
use lib.Count.{ones, ones_step}
use Rattle.gf2.specs.Sums.{sum, every}
use Rattle.gf2.proofs.Monoid.{nats, big, sum-big, big-ext, big-plus, big-append, big-swap}

pub sum-ext : (n : ℕ) (f g : ℕ → ℕ) → ((i : ℕ) → i < n → f i ≡ g i) → sum n f ≡ sum n g
sum-ext n f g h = sum-big n f ∙ big-ext nats n f g h ∙ sym (sum-big n g)

pub sum-plus : (n : ℕ) (f g : ℕ → ℕ) → sum n (λ i. f i + g i) ≡ sum n f + sum n g
sum-plus n f g = simp sum-big (big-plus nats n f g)

pub sum-none : (n : ℕ) (f : ℕ → ℕ) → ((i : ℕ) → i < n → f i ≡ 0) → sum n f ≡ 0
unfolding sum
sum-none zero f z = refl
sum-none (suc n) f z = rw (sum-none n f (λ i l. z i (omega arith)), z n (omega arith))

pub sum-zero : (f : ℕ → ℕ) → sum 0 f ≡ 0
unfolding sum
sum-zero f = refl

pub sum_one : (f : ℕ → ℕ) → sum 1 f ≡ f 0
unfolding sum
sum_one f = zero-add (f 0)

pub sum-next : (f : ℕ → ℕ) (n : ℕ) → sum (suc n) f ≡ sum n f + f n
unfolding sum
sum-next f n = refl

pub sum-split : (n k : ℕ) (f : ℕ → ℕ) → sum (n + k) f ≡ sum n f + sum k (λ i. f (n + i))
sum-split n k f = sum-big (n + k) f ∙ big-append nats n k f ∙ sym (ap₂ ◌+◌ (sum-big n f) (sum-big k (λ i. f (n + i))))

-- terms of which none is above c
pub sum-most : (n c : ℕ) (f : ℕ → ℕ) → ((i : ℕ) → f i ≤ c) → sum n f ≤ n * c
unfolding sum
sum-most zero c f h = omega arith
sum-most (suc n) c f h = omega (arith, sum-most n c f h, h n, suc-mul n c)

-- terms from m on that are 0
pub sum-clear : (m n : ℕ) (f : ℕ → ℕ) → m ≤ n → ((i : ℕ) → m ≤ i → f i ≡ 0) → sum n f ≡ sum m f
sum-clear m n f h e =
    let s : n ≡ m + (n - m) = omega arith in
    ap (λ k. sum k f) s ∙ sum-split m (n - m) f ∙ ap (λ r. sum m f + r) (sum-none (n - m) _ (λ i l. e (m + i) (omega arith))) ∙ add-zero _

pub sum-swap : (n k : ℕ) (f : ℕ → ℕ → ℕ) → sum n (λ i. sum k (f i)) ≡ sum k (λ j. sum n (λ i. f i j))
sum-swap n k f =
    sum-big n _ ∙ ap (big nats n) (fun_ext (λ i. sum-big k (f i))) ∙ big-swap nats n k f
    ∙ sym (sum-big k _ ∙ ap (big nats k) (fun_ext (λ j. sum-big n (λ i. f i j))))

-- n digits to the base k
pub sum-digits : (n k : ℕ) (f : ℕ → ℕ) → sum (n * k) f ≡ sum n (λ b. sum k (λ j. f (b * k + j)))
unfolding sum
sum-digits zero k f = rw zero-mul
sum-digits (suc n) k f = rw (suc-mul, sum-split, sum-digits n k f)

-- terms modulo 2 have the same sum modulo 2
pub sum-mod : (n : ℕ) (f : ℕ → ℕ) → sum n (λ i. f i % 2) % 2 ≡ sum n f % 2
unfolding sum
sum-mod zero f = refl
sum-mod (suc n) f = omega (arith, sum-mod n f)

-- terms that are equal modulo 2
pub sum-cong : (n : ℕ) (f g : ℕ → ℕ) → ((i : ℕ) → i < n → f i % 2 ≡ g i % 2) → sum n f % 2 ≡ sum n g % 2
sum-cong n f g h = sym (sum-mod n f) ∙ ap (λ x. x % 2) (sum-ext n _ _ h) ∙ sum-mod n g

-- a sum of bits
pub sum-bits : (n : ℕ) (f : ℕ → ℕ) → ((i : ℕ) → f i < 2) → sum n f ≤ n
sum-bits n f h = omega (arith, sum-most n 1 f (λ i. omega (arith, h i)))

-- the ones of a number are the sum of its bits
pub count_bits : (k n : ℕ) → n < 2 ^ k → ones n ≡ sum k (λ j. n / 2 ^ j % 2)
unfolding sum ones
count_bits zero n h = let z : n ≡ 0 = omega arith in ap ones z
count_bits (suc k) n h =
    let s : suc k ≡ 1 + k = omega arith in
    ones_step n ∙ sym (ap (λ c. sum c (λ j. n / 2 ^ j % 2)) s ∙ sum-split 1 k (λ j. n / 2 ^ j % 2)
    ∙ ap₂ ◌+◌ (omega arith) (sum-ext k _ (λ j. n / 2 / 2 ^ j % 2) (λ j l. ap (λ y. y % 2) (sym (shr-shr n 1 j))) ∙ sym (count_bits k (n / 2) (omega (arith, pow-suc 2 k)))))

both : (a b : Bool) → (a && b) ≡ true → (a ≡ true) × (b ≡ true)
both true b e = (refl, e)
both false b e = absurd (true≢false (sym e))

pub every-at : (n : ℕ) (test : ℕ → Bool) → every n test ≡ true → (i : ℕ) → i < n → test i ≡ true
unfolding every
every-at zero test e i l = absurd (omega arith)
every-at (suc n) test e i l = elim (ℕ_discrete i n) [
  | yes q ↦ rw q (both (every n test) (test n) e).1
  | no q ↦ every-at n test (both (every n test) (test n) e).0 i (omega arith)
]

pub every_of : (n : ℕ) (test : ℕ → Bool) → ((i : ℕ) → i < n → test i ≡ true) → every n test ≡ true
unfolding every
every_of zero test h = refl
every_of (suc n) test h = rw (every_of n test (λ i l. h i (omega arith))) (h n (omega arith))

-- a search through tests that are all to be true
pub every-none : (test : ℕ → Bool) → every 0 test ≡ true
unfolding every
every-none test = refl

pub every_more : (test : ℕ → Bool) (k : ℕ) → every k test ≡ true → test k ≡ true → every (k + 1) test ≡ true
unfolding every
every_more test k e h = rw (add-one, e) h

pub every-not : (n : ℕ) (test : ℕ → Bool) (k : ℕ) → k < n → test k ≡ false → every n test ≡ false
every-not n test k l h = go (every n test) refl
  where
    go : (b : Bool) → every n test ≡ b → b ≡ false
    go true e = sym (every-at n test e k l) ∙ h
    go false e = refl

-- a test that fails somewhere
pub every-fails : (n : ℕ) (test : ℕ → Bool) → every n test ≡ false → (i : ℕ) × (i < n) × (test i ≡ false)
unfolding every
every-fails zero test e = absurd (true≢false e)
every-fails (suc n) test e = go (every n test) refl e (every-fails n test)
  where
    go : (a : Bool) → every n test ≡ a → (a && test n) ≡ false → (every n test ≡ false → (i : ℕ) × (i < n) × (test i ≡ false)) → (i : ℕ) × (i < suc n) × (test i ≡ false)
    go true p e h = (n, omega arith, e)
    go false p e h = let w = h p in (w.0, (let l = w.1 in omega arith), w.2)
