-- Laws of decimal numbers: `digit_count` is the number of digits of which the kit's contract speaks.
use mathlib.Core.Path.{◌≡◌, refl}
use mathlib.Core.Bool.{Bool, true, false}
use mathlib.Core.List.{[], ◌∷◌}
use Prim.Native.Nat.{ℕ, zero, suc, ◌+◌, ◌-◌, ◌^◌, ◌<◌, ◌≤◌, ◌%◌, ◌/◌, ◌*◌}
use native.Mathlib.Nat.{add-zero, pow-le-pow_right}
use lib.Pow.{pow-add}
use native.Mathlib.Omega.{arith}
use lib.ListN.{length, length-append}
use lib.Dec.{ltb}
use borrow.Author.Tests.{ltb-true, ltb-false}
use Rattle.io.specs.Digits.{last_digits, hex_digit_ascii, IsDigitCount}
use Rattle.gf2.specs.Operands.{choose}
use Rattle.reporting.specs.Text.{digits_from, digit_count, decimal}

power-more : (k : ℕ) → 10 ^ (k + 1) ≡ 10 ^ k * 10
power-more k = pow-add 10 k 1

below_power : (n : ℕ) → n < 10 ^ (1 + n)
below_power zero = omega arith
below_power (suc n) =
    let e : 1 + suc n ≡ 1 + n + 1 = omega arith in
    rw e (omega (arith, power-more (1 + n), below_power n))

from-fewest : (n k more : ℕ) → 1 ≤ k → (1 < k → 10 ^ (k - 1) ≤ n) → n < 10 ^ (k + more) → IsDigitCount 10 1 n (digits_from n k more)
unfolding digits_from
from-fewest n k zero one low high = (one, rw add-zero at high, low)
from-fewest n k (suc more) one low high =
    go (ltb n (10 ^ k)) refl (λ h. let e : k + 1 + more ≡ k + suc more = omega arith in from-fewest n (k + 1) more (omega arith) h (rw e high))
  where
    go : (b : Bool) → ltb n (10 ^ k) ≡ b → ((1 < k + 1 → 10 ^ (k + 1 - 1) ≤ n) → IsDigitCount 10 1 n (digits_from n (k + 1) more)) → IsDigitCount 10 1 n (choose (ltb n (10 ^ k)) k (digits_from n (k + 1) more))
    go true e h = rw e (one, ltb-true _ _ e, low)
    go false e h = let q : k + 1 - 1 ≡ k = omega arith in rw e (h (λ _. rw q (ltb-false _ _ e)))

pub count-fewest : (n : ℕ) → IsDigitCount 10 1 n (digit_count n)
count-fewest n = from-fewest n 1 n (omega arith) (λ h. absurd (omega arith)) (below_power n)

-- no number of digits below it holds n
fewest-least : (n j k : ℕ) → IsDigitCount 10 1 n k → 1 ≤ j → n < 10 ^ j → k ≤ j
fewest-least n j k q one h = go (ltb j k) refl
  where
    go : (b : Bool) → ltb j k ≡ b → k ≤ j
    go true e =
        let l : j < k = ltb-true j k e in
        absurd (omega (arith, q.2 (omega arith), pow-le-pow_right {n = 10} (omega arith) {i = j} {j = k - 1} (omega arith)))
    go false e = ltb-false j k e

-- the kit's contract gives this very number of digits
pub count-is : (n k : ℕ) → IsDigitCount 10 1 n k → k ≡ digit_count n
count-is n k q =
    let p = count-fewest n in
    omega (arith, fewest-least n (digit_count n) k q p.0 p.1, fewest-least n k (digit_count n) p q.0 q.1)

digits-length : (b k n : ℕ) → length (last_digits b k n) ≡ k
digits-length b zero n = refl
digits-length b (suc k) n = omega (arith, length-append (last_digits b k (n / b)) (hex_digit_ascii (n % b) ∷ []), digits-length b k (n / b))

-- the digits of a number below a power of ten
pub decimal-length : (n k : ℕ) → n < 10 ^ suc k → length (decimal n) ≤ suc k
unfolding decimal
decimal-length n k h = rw (digits-length 10 (digit_count n) n) (fewest-least n (suc k) (digit_count n) (count-fewest n) (omega arith) h)
