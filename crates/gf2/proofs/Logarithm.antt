-- The logarithm rounded down, `log2`.
-- log2-bounds: 2^(log2 n) ≤ n < 2^(log2 n + 1). top_digit: the highest binary digit is 1. log2-small, log2-half, log2-le: by halving.
use mathlib.Core.Path.{◌≡◌, refl, sym, ap}
use Prim.Native.Nat.{ℕ, zero, suc, ◌+◌, ◌/◌, ◌^◌, ◌<◌, ◌≤◌}
use native.Mathlib.Nat.{pow-suc, div-eq_of_lt-le}
use native.Mathlib.Decide.{dec_lt}
use native.Mathlib.Omega.{arith}
use borrow.Author.Tests.{lt-ltb, le-ltb}
use Rattle.gf2.specs.Inverse.{halvings, log2}

halvings-bounds : (fuel n : ℕ) → 1 ≤ n → n ≤ fuel → (2 ^ halvings fuel n ≤ n) × (n < 2 ^ suc (halvings fuel n))
unfolding halvings
halvings-bounds zero n h l = absurd (omega arith)
halvings-bounds (suc fuel) n h l = elim (dec_lt n 2) [
  | yes q ↦ rw (lt-ltb n 2 q) (omega arith, omega arith)
  | no q ↦ rw (le-ltb n 2 (omega arith)) (more (halvings-bounds fuel (n / 2) (omega arith) (omega arith)))
]
  where
    more : (2 ^ halvings fuel (n / 2) ≤ n / 2) × (n / 2 < 2 ^ suc (halvings fuel (n / 2))) →
        (2 ^ suc (halvings fuel (n / 2)) ≤ n) × (n < 2 ^ suc (suc (halvings fuel (n / 2))))
    more b = let k = halvings fuel (n / 2) in (omega (arith, pow-suc 2 k), omega (arith, pow-suc 2 (suc k)))

pub log2-bounds : (n : ℕ) → 1 ≤ n → (2 ^ log2 n ≤ n) × (n < 2 ^ (log2 n + 1))
log2-bounds n h = let b = halvings-bounds n n h (omega arith) in let e : log2 n + 1 ≡ suc (log2 n) = omega arith in (b.0, rw e b.1)

-- the highest digit is 1
pub top_digit : (n : ℕ) → 1 ≤ n → n / 2 ^ log2 n ≡ 1
top_digit n h = let b = halvings-bounds n n h (omega arith) in
    div-eq_of_lt-le {k = 1} (2 ^ log2 n) {m = n} (omega arith) (omega (arith, pow-suc 2 (log2 n)))

-- log2 by one halving more; fuel enough makes no difference
halvings-small : (fuel n : ℕ) → n < 2 → halvings fuel n ≡ 0
unfolding halvings
halvings-small zero n h = refl
halvings-small (suc fuel) n h = rw (lt-ltb n 2 h)

halvings-fuel : (f g n : ℕ) → n ≤ f → n ≤ g → halvings f n ≡ halvings g n
unfolding halvings
halvings-fuel zero g n h l = sym (halvings-small g n (omega arith))
halvings-fuel (suc f) zero n h l = halvings-small (suc f) n (omega arith)
halvings-fuel (suc f) (suc g) n h l = elim (dec_lt n 2) [
  | yes q ↦ rw (lt-ltb n 2 q)
  | no q ↦ rw (le-ltb n 2 (omega arith)) (ap suc (halvings-fuel f g (n / 2) (omega arith) (omega arith)))
]

pub log2-small : (n : ℕ) → n < 2 → log2 n ≡ 0
log2-small n h = halvings-small n n h

pub log2-half : (n : ℕ) → 2 ≤ n → log2 n ≡ log2 (n / 2) + 1
unfolding halvings
log2-half zero h = absurd (omega arith)
log2-half (suc n) h = rw (le-ltb (suc n) 2 h) (omega (arith, halvings-fuel n (suc n / 2) (suc n / 2) (omega arith) (omega arith)))

halvings-le : (fuel n : ℕ) → halvings fuel n ≤ fuel
unfolding halvings
halvings-le zero n = omega arith
halvings-le (suc fuel) n = elim (dec_lt n 2) [
  | yes q ↦ rw (lt-ltb n 2 q) (omega arith)
  | no q ↦ rw (le-ltb n 2 (omega arith)) (omega (arith, halvings-le fuel (n / 2)))
]

pub log2-le : (n : ℕ) → log2 n ≤ n
log2-le n = halvings-le n n
