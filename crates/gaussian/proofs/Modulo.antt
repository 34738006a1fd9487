-- Remainders of products and powers, and the order of a number modulo another.
use mathlib.Core.Path.{◌≡◌, sym, ap, ap₂, ◌∙◌}
use mathlib.Core.Logic.{◌≢◌, ◌⊎◌, inl, inr}
use Prim.Native.Nat.{ℕ, zero, suc, ◌*◌, ◌/◌, ◌%◌, ◌^◌, ◌≤◌, ◌<◌}
use native.Mathlib.Nat.{mul-zero, mul-suc, mul_comm, mul-one, mod-add-div, mod-eq_of_lt, mod-lt, pow-zero, pow-suc, mul-mul-mul_comm}
use native.Mathlib.Decide.{ℕ_discrete}
use native.Mathlib.Omega.{arith}
use lib.Pow.{pow-add}
use Rattle.gf2.proofs.Remainders.{mul_mod_left}
use Rattle.gaussian.specs.Types.{IsOrder}

pub mul_mod_right : (a b p : ℕ) → a * b % p ≡ a * (b % p) % p
mul_mod_right a b p = ap (λ (x : ℕ). x % p) (mul_comm a b) ∙ mul_mod_left b a p ∙ ap (λ (x : ℕ). x % p) (mul_comm (b % p) a)

pub mul-cong : (a a' b b' p : ℕ) → a % p ≡ a' % p → b % p ≡ b' % p → a * b % p ≡ a' * b' % p
mul-cong a a' b b' p e e' =
    mul_mod_left a b p ∙ ap (λ (x : ℕ). x * b % p) e ∙ sym (mul_mod_left a' b p) ∙ mul_mod_right a' b p ∙ ap (λ (x : ℕ). a' * x % p) e' ∙ sym (mul_mod_right a' b' p)

-- times what leaves 1
pub mul-one-mod : (a b p : ℕ) → b % p ≡ 1 → a * b % p ≡ a % p
mul-one-mod a b p e = mul_mod_right a b p ∙ ap (λ (x : ℕ). a * x % p) e ∙ ap (λ (x : ℕ). x % p) (mul-one a)

pub pow-one : (b p k c : ℕ) → 1 < p → b ^ k % p ≡ 1 → b ^ (k * c) % p ≡ 1
pow-one b p k zero h e = ap (λ (x : ℕ). b ^ x % p) (mul-zero k) ∙ ap (λ (x : ℕ). x % p) (pow-zero b) ∙ mod-eq_of_lt h
pow-one b p k (suc c) h e =
    ap (λ (x : ℕ). b ^ x % p) (mul-suc k c) ∙ ap (λ (x : ℕ). x % p) (pow-add b (k * c) k) ∙ mul-one-mod (b ^ (k * c)) (b ^ k) p e ∙ pow-one b p k c h e

-- powers of products and of powers, and of what leaves the same remainder
pub pow-mul : (b i j : ℕ) → b ^ (i * j) ≡ (b ^ i) ^ j
pow-mul b i zero = ap (λ (x : ℕ). b ^ x) (mul-zero i) ∙ pow-zero b ∙ sym (pow-zero (b ^ i))
pow-mul b i (suc j) = ap (λ (x : ℕ). b ^ x) (mul-suc i j) ∙ pow-add b (i * j) i ∙ ap (λ (x : ℕ). x * b ^ i) (pow-mul b i j) ∙ sym (pow-suc (b ^ i) j)

pub mul-pow : (a b n : ℕ) → (a * b) ^ n ≡ a ^ n * b ^ n
mul-pow a b zero = pow-zero (a * b) ∙ sym (ap₂ ◌*◌ (pow-zero a) (pow-zero b))
mul-pow a b (suc n) = pow-suc (a * b) n ∙ ap (λ (x : ℕ). x * (a * b)) (mul-pow a b n) ∙ mul-mul-mul_comm (a ^ n) (b ^ n) a b ∙ sym (ap₂ ◌*◌ (pow-suc a n) (pow-suc b n))

pub pow-cong : (a b p n : ℕ) → a % p ≡ b % p → a ^ n % p ≡ b ^ n % p
pow-cong a b p zero e = ap (λ (x : ℕ). x % p) (pow-zero a ∙ sym (pow-zero b))
pow-cong a b p (suc n) e = ap (λ (x : ℕ). x % p) (pow-suc a n) ∙ mul-cong (a ^ n) (b ^ n) a b p (pow-cong a b p n e) e ∙ ap (λ (x : ℕ). x % p) (sym (pow-suc b n))

-- the order divides each power that leaves 1
pub order-divides : (k b p n : ℕ) → 1 < p → IsOrder k b p → b ^ n % p ≡ 1 → n % k ≡ 0
order-divides k b p n h o e =
    let rest =
    sym (mul-one-mod (b ^ (n % k)) (b ^ (k * (n / k))) p (pow-one b p k (n / k) h o.1))
    ∙ ap (λ (x : ℕ). x % p) (sym (pow-add b (n % k) (k * (n / k))))
    ∙ ap (λ (x : ℕ). b ^ x % p) (mod-add-div n k)
    ∙ e in
    elim (ℕ_discrete (n % k) 0) [
      | yes z ↦ z
      | no z ↦ absurd (o.2 (n % k) (omega arith) (mod-lt n o.0) rest)
    ]

-- the least number above 0 whose power leaves 1, where there is one up to n
order-up-to : (b p n : ℕ) → ((k : ℕ) × IsOrder k b p) ⊎ ((j : ℕ) → 0 < j → j ≤ n → b ^ j % p ≢ 1)
order-up-to b p zero = inr (λ j h h'. absurd (omega arith))
order-up-to b p (suc n) = elim (order-up-to b p n) [
  | inl o ↦ inl o
  | inr f ↦ elim (ℕ_discrete (b ^ suc n % p) 1) [
    | yes e ↦ inl (suc n, (omega arith, e, λ j h h'. f j h (omega arith)))
    | no e ↦ inr (λ j h h'. elim (ℕ_discrete j (suc n)) [
      | yes q ↦ rw q e
      | no q ↦ f j h (omega arith)
    ])
  ]
]

pub order-exists : (b p n : ℕ) → 0 < n → b ^ n % p ≡ 1 → (k : ℕ) × IsOrder k b p
order-exists b p n h e = elim (order-up-to b p n) [
  | inl o ↦ o
  | inr f ↦ absurd (f n h (omega arith) e)
]
