-- Powers of 2 modulo a prime p: 2 to p - 1 leaves 1 where p is odd (Fermat), and 2 to (p - 1) / 2 where 8 divides p - 1 (2 is a
-- square), so that a width that 8 divides has no type. Both by the product 2 · 4 ⋯ 2k, which is 2^k · k!: modulo p its later factors
-- are the odd numbers, in the second case but for their signs, so that it is k! too.
use mathlib.Core.Path.{◌≡◌, refl, sym, ap, ap₂, ◌∙◌, subst}
use Prim.Native.Nat.{ℕ, zero, suc, ◌+◌, ◌-◌, ◌*◌, ◌/◌, ◌%◌, ◌^◌, ◌≤◌, ◌<◌, ◌∣◌, zero-le, suc-le-suc}
use native.Mathlib.Nat.{add-zero, add-suc, add-mod_left, zero-add, one-mul, mul-one, mul_comm, mul_assoc, mul-add, add-mul, mul_left_comm, mul-mul-mul_comm, le_refl, le_trans, le_of_lt, not-suc-le-zero, mod-lt, mod-eq_of_lt, mod-add-div', add-mul-mod_self_right, dvd-add_iff_right, dvd-mul_left_of_dvd, dvd-mul_right, pow-suc, mul-div_cancel', dvd-mul_left}
use native.Mathlib.Decide.{ℕ_discrete}
use native.Mathlib.Omega.{arith}
use lib.Pow.{pow_pos}
use Rattle.gaussian.specs.Types.{Prime, IsType}
use Rattle.gaussian.proofs.Modulo.{mul-cong}
use Rattle.gaussian.proofs.Soundness.{hit-refutes}

-- Euclid: a prime that divides a product of a lesser number, not 0, divides the other factor.
euclid' : (p b f a : ℕ) → Prime p → a ≤ f → 0 < a → a < p → p ∣ a * b → p ∣ b
euclid' p b zero a hp h h₁ h₂ d = absurd (not-suc-le-zero (le_trans h₁ h))
euclid' p b (suc f) a hp h h₁ h₂ d = elim (ℕ_discrete a 1) [
  | yes q ↦ subst (λ (x : ℕ). p ∣ x) (ap (λ (x : ℕ). x * b) q ∙ one-mul b) d
  | no q ↦
      let eq : p * b ≡ p / a * (a * b) + p % a * b =
      ap (λ (x : ℕ). x * b) (sym (mod-add-div' p a)) ∙ add-mul (p % a) (p / a * a) b ∙ omega (arith, mul_assoc (p / a) a b) in
      let rest = (dvd-add_iff_right p (dvd-mul_left_of_dvd p d (p / a))).1 (subst (λ (x : ℕ). p ∣ x) eq (dvd-mul_right p b)) in
      let less = mod-lt p h₁ in
      let some = hp.1 a (omega arith) h₂ in
      euclid' p b f (p % a) hp (omega arith) (omega arith) (omega arith) rest
]

euclid : (p a b : ℕ) → Prime p → 0 < a → a < p → p ∣ a * b → p ∣ b
euclid p a b hp h h' d = euclid' p b a a hp (le_refl a) h h' d

-- the product 2 · 4 ⋯ 2k, its factors after the first c, the product 1 · 3 ⋯ (2k - 1), that of k factors n, n - 2, ⋯ and the factorial
evens : ℕ → ℕ
evens zero = 1
evens (suc k) = evens k * (2 * suc k)

later : ℕ → ℕ → ℕ
later c zero = 1
later c (suc k) = later c k * (2 * (c + suc k))

odds : ℕ → ℕ
odds zero = 1
odds (suc k) = odds k * (2 * k + 1)

downs : ℕ → ℕ → ℕ
downs n zero = 1
downs n (suc k) = downs n k * (n - 2 * k)

factorial : ℕ → ℕ
factorial zero = 1
factorial (suc n) = factorial n * suc n

-- 2 · 4 ⋯ 2k = 2^k · k!
evens-factorial : (k : ℕ) → evens k ≡ 2 ^ k * factorial k
unfolding evens factorial
evens-factorial zero = refl
evens-factorial (suc k) = ap (λ (x : ℕ). x * (2 * suc k)) (evens-factorial k) ∙ mul-mul-mul_comm (2 ^ k) (factorial k) 2 (suc k) ∙ ap (λ (x : ℕ). x * (factorial k * suc k)) (sym (pow-suc 2 k))

-- (2k)! = (2 · 4 ⋯ 2k) · (1 · 3 ⋯ (2k - 1))
factorial-halves : (k : ℕ) → factorial (2 * k) ≡ evens k * odds k
unfolding evens factorial odds
factorial-halves zero = refl
factorial-halves (suc k) =
    let shape : 2 * suc k ≡ suc (suc (2 * k)) = omega arith in
    ap factorial shape
    ∙ ap (λ (x : ℕ). x * suc (2 * k) * suc (suc (2 * k))) (factorial-halves k)
    ∙ mul_assoc (evens k * odds k) (suc (2 * k)) (suc (suc (2 * k)))
    ∙ ap (λ (x : ℕ). evens k * odds k * x) (mul_comm (suc (2 * k)) (suc (suc (2 * k))) ∙ ap₂ ◌*◌ (sym shape) (omega arith))
    ∙ sym (mul-mul-mul_comm (evens k) (2 * suc k) (odds k) (2 * k + 1))

evens-later : (c k : ℕ) → evens (c + k) ≡ evens c * later c k
unfolding evens later
evens-later c zero = ap evens (add-zero c) ∙ sym (mul-one (evens c))
evens-later c (suc k) = ap evens (add-suc c k) ∙ ap₂ ◌*◌ (evens-later c k) (omega arith) ∙ mul_assoc (evens c) (later c k) (2 * (c + suc k))

later-odds : (h p : ℕ) → p ≡ 2 * h + 1 → (k : ℕ) → later h k % p ≡ odds k % p
unfolding later odds
later-odds h p e zero = refl
later-odds h p e (suc k) =
    let shape : 2 * (h + suc k) ≡ p + (2 * k + 1) = omega arith in
    mul-cong (later h k) (odds k) (2 * (h + suc k)) (2 * k + 1) p (later-odds h p e k) (ap (λ (x : ℕ). x % p) shape ∙ add-mod_left p (2 * k + 1))

-- 2 · 4 ⋯ 2n = (2 · 4 ⋯ 2c) · (the last k factors), where k + c = n
evens-split : (n k c : ℕ) → k + c ≡ n → evens n ≡ evens c * downs (2 * n) k
unfolding evens downs
evens-split n zero c e = ap evens (sym e ∙ zero-add c) ∙ sym (mul-one (evens c))
evens-split n (suc k) c e =
    evens-split n k (suc c) (omega arith)
    ∙ mul_assoc (evens c) (2 * suc c) (downs (2 * n) k)
    ∙ ap (λ (x : ℕ). evens c * x) (mul_comm (2 * suc c) (downs (2 * n) k) ∙ ap (λ (x : ℕ). downs (2 * n) k * x) (omega arith))

-- two factors may both be replaced by what p lacks of them
negatives : (a a' b b' p : ℕ) → a + a' ≡ p → b + b' ≡ p → a' * b' % p ≡ a * b % p
negatives a a' b b' p ha hb =
    let left = ap (λ (x : ℕ). a * x) (sym hb) ∙ mul-add a b b' in
    let right = ap (λ (x : ℕ). b' * x) (sym ha) ∙ mul_comm b' (a + a') ∙ add-mul a a' b' in
    let same : a' * b' + a * p ≡ a * b + b' * p = omega (arith, left, right) in
    sym (add-mul-mod_self_right (a' * b') a p) ∙ ap (λ (x : ℕ). x % p) same ∙ add-mul-mod_self_right (a * b) b' p

downs-odds : (n p : ℕ) → n + 1 ≡ p → (j : ℕ) → 4 * j ≤ n → downs n (2 * j) % p ≡ odds (2 * j) % p
unfolding downs odds
downs-odds n p e zero h = refl
downs-odds n p e (suc j) h =
    let k = 2 * j in
    let shape : 2 * suc j ≡ suc (suc (2 * j)) = omega arith in
    ap (λ (x : ℕ). downs n x % p) shape
    ∙ ap (λ (x : ℕ). x % p) (mul_assoc (downs n k) (n - 2 * k) (n - 2 * suc k))
    ∙ mul-cong (downs n k) (odds k) ((n - 2 * k) * (n - 2 * suc k)) ((2 * k + 1) * (2 * suc k + 1)) p (downs-odds n p e j (omega arith))
    (negatives (2 * k + 1) (n - 2 * k) (2 * suc k + 1) (n - 2 * suc k) p (omega arith) (omega arith))
    ∙ ap (λ (x : ℕ). x % p) (sym (mul_assoc (odds k) (2 * k + 1) (2 * suc k + 1)))
    ∙ ap (λ (x : ℕ). odds x % p) (sym shape)

-- what may be added with the remainder unchanged is divided
same-remainder : (p a x : ℕ) → (a + x) % p ≡ a % p → p ∣ x
same-remainder p a x e =
    let both : a / p * p + x ≡ (a + x) / p * p = omega (arith, mod-add-div' a p, mod-add-div' (a + x) p, e) in
    (dvd-add_iff_right p (dvd-mul_left p (a / p))).1 (subst (λ (y : ℕ). p ∣ y) (sym both) (dvd-mul_left p ((a + x) / p)))

cancel : (p c k : ℕ) → Prime p → k < p → p ∣ factorial k * c → p ∣ c
unfolding factorial
cancel p c zero hp h d = subst (λ (x : ℕ). p ∣ x) (one-mul c) d
cancel p c (suc k) hp h d = euclid p (suc k) c hp (suc-le-suc zero-le) h (cancel p (suc k * c) k hp (le_of_lt h) (subst (λ (x : ℕ). p ∣ x) (mul_assoc (factorial k) (suc k) c) d))

-- where 2^k leaves a factorial as it was, it leaves 1
leaves-one : (p k n : ℕ) → Prime p → n < p → 2 ^ k * factorial n % p ≡ factorial n % p → 2 ^ k % p ≡ 1
leaves-one p k n hp h e =
    let f = factorial n in
    let c = 2 ^ k - 1 in
    let more : 2 ^ k ≡ 1 + c = omega (arith, pow_pos k) in
    let sum : f + f * c ≡ 2 ^ k * f = omega (arith, mul-add f 1 c, mul-one f) ∙ mul_comm f (1 + c) ∙ ap (λ (x : ℕ). x * f) (sym more) in
    let divides = cancel p c n hp h (same-remainder p f (f * c) (ap (λ (x : ℕ). x % p) sum ∙ e)) in
    ap (λ (x : ℕ). x % p) (more ∙ ap (λ (x : ℕ). 1 + x) (sym (mul-div_cancel' p divides) ∙ mul_comm p (c / p)))
    ∙ add-mul-mod_self_right 1 (c / p) p
    ∙ mod-eq_of_lt hp.0

pub two-whole : (h p : ℕ) → p ≡ 2 * h + 1 → Prime p → 2 ^ (2 * h) % p ≡ 1
two-whole h p e hp = leaves-one p (2 * h) (2 * h) hp (omega arith)
    (ap (λ (x : ℕ). x % p) (sym (evens-factorial (2 * h)) ∙ ap evens (omega arith) ∙ evens-later h h)
    ∙ mul-cong (evens h) (evens h) (later h h) (odds h) p refl (later-odds h p e h)
    ∙ ap (λ (x : ℕ). x % p) (sym (factorial-halves h)))

two-half : (n p : ℕ) → p ≡ 8 * n + 1 → Prime p → 2 ^ (4 * n) % p ≡ 1
two-half n p e hp = leaves-one p (4 * n) (4 * n) hp (omega arith)
    (ap (λ (x : ℕ). x % p) (sym (evens-factorial (4 * n)) ∙ evens-split (4 * n) (2 * n) (2 * n) (omega arith))
    ∙ mul-cong (evens (2 * n)) (evens (2 * n)) (downs (2 * (4 * n)) (2 * n)) (odds (2 * n)) p refl (downs-odds (2 * (4 * n)) p (omega arith) n (omega arith))
    ∙ ap (λ (x : ℕ). x % p) (sym (factorial-halves (2 * n)) ∙ ap factorial (omega arith)))

-- a width that 8 divides has no type
pub eight : (m : ℕ) → 0 < m → m % 8 ≡ 0 → (t : ℕ) → ¬ IsType m t
eight m hm z t ty =
    let n = t * (m / 8) in
    let eq : m ≡ 8 * (m / 8) = omega arith in
    let whole : t * m ≡ 8 * n = ap (λ (x : ℕ). t * x) eq ∙ mul_left_comm t 8 (m / 8) in
    let half : t * m / 2 ≡ 4 * n = omega arith in
    hit-refutes m t hm 2 (omega arith) (omega arith) (ap (λ (x : ℕ). 2 ^ x % (t * m + 1)) half ∙ two-half n (t * m + 1) (omega arith) ty.0) ty
