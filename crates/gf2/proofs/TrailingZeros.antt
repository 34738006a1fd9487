-- The zeros below the lowest one of a number: they are 0, the bit after them is 1, and it is a bit of the number.
-- lowest-one, lowest-next, lowest-less, lowest-off: a number and that less one have all ones of the number but the lowest; lowest-sum: so in a sum over them.
use mathlib.Core.Path.{◌≡◌, refl, sym, ap, ap₂, ◌∙◌}
use mathlib.Core.Logic.{◌≢◌}
use Prim.Native.Nat.{ℕ, zero, suc, ◌+◌, ◌-◌, ◌*◌, ◌/◌, ◌%◌, ◌^◌, ◌<◌, min}
use native.Mathlib.Nat.{add-zero, add-mul, zero-mul, one-mul, div-eq_of_lt, div-one, lt_of_lt_of_le, min-zero, zero-min, pow-suc}
use native.Mathlib.Decide.{dec_lt}
use native.Mathlib.Omega.{arith}
use lib.Dec.{eqb, eqb-zero-suc, eqb-suc-zero, eqb-suc-suc}
use lib.Bits.{bit_and, and_step, and_self, and_le_r}
use lib.Pow.{pow_mono, shr-shr}
use lib.Count.{count_trailing_zeros, under}
use borrow.Author.Tests.{eq-eqb, ne_eqb}
use Rattle.gf2.specs.Sums.{sum}
use Rattle.gf2.specs.Operands.{choose}
use Rattle.gf2.proofs.Monoid.{nats, sum-big, big-point}
use Rattle.gf2.proofs.Sums.{sum-ext, sum-plus}

pub trailing-low : (k n j : ℕ) → j < count_trailing_zeros k n → n / 2 ^ j % 2 ≡ 0
unfolding count_trailing_zeros
trailing-low zero n j h = absurd (omega arith)
trailing-low (suc k) n j h = go (λ i l. trailing-low k (n / 2) i l) (n % 2) refl j h
  where
    go : ((i : ℕ) → i < count_trailing_zeros k (n / 2) → n / 2 / 2 ^ i % 2 ≡ 0) → (r : ℕ) → n % 2 ≡ r → (j : ℕ) → j < under r (count_trailing_zeros k (n / 2)) → n / 2 ^ j % 2 ≡ 0
    go rest zero e zero l = ap (λ y. y % 2) (div-one n) ∙ e
    go rest zero e (suc j) l = let q : suc j ≡ 1 + j = omega arith in
        ap (λ i. n / 2 ^ i % 2) q ∙ sym (ap (λ y. y % 2) (shr-shr n 1 j)) ∙ rest j (omega arith)
    go rest (suc r) e j l = absurd (omega arith)

pub trailing-one : (k n : ℕ) → 0 < n → n < 2 ^ k → n / 2 ^ count_trailing_zeros k n % 2 ≡ 1
unfolding count_trailing_zeros
trailing-one zero n h l = absurd (omega arith)
trailing-one (suc k) n h l = go (λ p q. trailing-one k (n / 2) p q) (n % 2) refl
  where
    go : (0 < n / 2 → n / 2 < 2 ^ k → n / 2 / 2 ^ count_trailing_zeros k (n / 2) % 2 ≡ 1) → (r : ℕ) → n % 2 ≡ r → n / 2 ^ under r (count_trailing_zeros k (n / 2)) % 2 ≡ 1
    go rest zero e = let t = count_trailing_zeros k (n / 2) in let q : suc t ≡ 1 + t = omega arith in
        ap (λ i. n / 2 ^ i % 2) q ∙ sym (ap (λ y. y % 2) (shr-shr n 1 t)) ∙ rest (omega arith) (omega (arith, pow-suc 2 k))
    go rest (suc r) e = ap (λ y. y % 2) (div-one n) ∙ omega arith

pub one_below : (n k j : ℕ) → n < 2 ^ k → n / 2 ^ j % 2 ≡ 1 → j < k
one_below n k j h e = elim (dec_lt j k) [
  | yes l ↦ l
  | no l ↦ let z : n / 2 ^ j ≡ 0 = div-eq_of_lt (lt_of_lt_of_le h (pow_mono {i = k} {j = j} (omega arith))) in absurd (omega arith)
]

half : (x j : ℕ) → x / 2 ^ suc j ≡ x / 2 / 2 ^ j
half x j = let q : suc j ≡ 1 + j = omega arith in ap (λ i. x / 2 ^ i) q ∙ sym (shr-shr x 1 j)

and-even : (n : ℕ) → 0 < n → n % 2 ≡ 0 → bit_and n (n - 1) ≡ bit_and (n / 2) (n / 2 - 1) * 2
and-even n h e =
    let d : (n - 1) / 2 ≡ n / 2 - 1 = omega arith in
    and_step n (n - 1) ∙ ap₂ (λ a b. bit_and (n / 2) a * 2 + b) d (ap (λ a. min a ((n - 1) % 2)) e ∙ zero-min ((n - 1) % 2)) ∙ add-zero _

and-odd : (n : ℕ) → n % 2 ≡ 1 → bit_and n (n - 1) ≡ n - 1
and-odd n e =
    let d : (n - 1) / 2 ≡ n / 2 = omega arith in
    let z : (n - 1) % 2 ≡ 0 = omega arith in
    and_step n (n - 1) ∙ ap₂ (λ a b. bit_and (n / 2) a * 2 + b) d (ap (min (n % 2)) z ∙ min-zero (n % 2)) ∙ ap (λ a. a * 2 + 0) (and_self (n / 2)) ∙ omega arith

-- n and n - 1 have the bits of n but the lowest one
off : (k n : ℕ) → 0 < n → n < 2 ^ k → (j : ℕ) → bit_and n (n - 1) / 2 ^ j % 2 + choose (eqb j (count_trailing_zeros k n)) 1 0 ≡ n / 2 ^ j % 2
unfolding count_trailing_zeros
off zero n h l j = absurd (omega arith)
off (suc k) n h l j = go (λ p q i. off k (n / 2) p q i) (n % 2) refl j
  where
    go : (0 < n / 2 → n / 2 < 2 ^ k → (i : ℕ) → bit_and (n / 2) (n / 2 - 1) / 2 ^ i % 2 + choose (eqb i (count_trailing_zeros k (n / 2))) 1 0 ≡ n / 2 / 2 ^ i % 2)
        → (r : ℕ) → n % 2 ≡ r → (j : ℕ) → bit_and n (n - 1) / 2 ^ j % 2 + choose (eqb j (under r (count_trailing_zeros k (n / 2)))) 1 0 ≡ n / 2 ^ j % 2
    go rest zero e zero = rw (eqb-zero-suc (count_trailing_zeros k (n / 2)), and-even n h e, div-one, div-one) (omega arith)
    go rest zero e (suc j) =
        let d : bit_and (n / 2) (n / 2 - 1) * 2 / 2 ≡ bit_and (n / 2) (n / 2 - 1) = omega arith in
        rw (eqb-suc-suc j (count_trailing_zeros k (n / 2)), half n j, half (bit_and n (n - 1)) j, and-even n h e, d) (rest (omega arith) (omega (arith, pow-suc 2 k)) j)
    go rest (suc r) e zero = rw (and-odd n (omega arith), div-one, div-one) (omega arith)
    go rest (suc r) e (suc j) =
        let d : (n - 1) / 2 ≡ n / 2 = omega arith in
        rw (eqb-suc-zero j, half n j, half (bit_and n (n - 1)) j, and-odd n (omega arith), d) (add-zero _)

positive : (n : ℕ) → (n ≡ 0 → ⊥) → 0 < n
positive zero some = absurd (some refl)
positive (suc n) some = omega arith

-- a number of at most k bits that isn't 0
module _ (k n : ℕ) (small : n < 2 ^ k) (some : n ≡ 0 → ⊥) where
  pub lowest-one : n / 2 ^ count_trailing_zeros k n % 2 ≡ 1
  lowest-one = trailing-one k n (positive n some) small

  pub lowest-next : count_trailing_zeros k n < k
  lowest-next = one_below n k _ small lowest-one

  pub lowest-less : bit_and n (n - 1) < n
  lowest-less = omega (arith, and_le_r n (n - 1), positive n some)

  pub lowest-off : (j : ℕ) → bit_and n (n - 1) / 2 ^ j % 2 + choose (eqb j (count_trailing_zeros k n)) 1 0 ≡ n / 2 ^ j % 2
  lowest-off = off k n (positive n some) small

  pub lowest-sum : (f : ℕ → ℕ) → sum k (λ b. n / 2 ^ b % 2 * f b) ≡ sum k (λ b. bit_and n (n - 1) / 2 ^ b % 2 * f b) + f (count_trailing_zeros k n)
  lowest-sum f =
      sum-ext k _ _ (λ b l. ap (λ y. y * f b) (sym (lowest-off b)) ∙ add-mul _ _ (f b)) ∙ sum-plus k _ _
      ∙ ap (λ y. sum k (λ b. bit_and n (n - 1) / 2 ^ b % 2 * f b) + y) (sum-big k _ ∙ big-point nats k (count_trailing_zeros k n) _ lowest-next other ∙ here)
    where
      other : (b : ℕ) → b < k → b ≢ count_trailing_zeros k n → choose (eqb b (count_trailing_zeros k n)) 1 0 * f b ≡ 0
      other b l ne = ap (λ c. choose c 1 0 * f b) (ne_eqb b _ ne) ∙ zero-mul (f b)

      here : choose (eqb (count_trailing_zeros k n) (count_trailing_zeros k n)) 1 0 * f (count_trailing_zeros k n) ≡ f (count_trailing_zeros k n)
      here = ap (λ c. choose c 1 0 * f (count_trailing_zeros k n)) (eq-eqb (count_trailing_zeros k n) _ refl) ∙ one-mul _
