-- At a type t of the width m, with p = t m + 1 and g = 2^t: x lies in 2^s K exactly when x^t is g^s modulo p, and the powers
-- g^s are distinct for s below m.
use mathlib.Core.Path.{◌≡◌, refl, sym, ap, ◌∙◌, subst}
use mathlib.Core.Logic.{◌≢◌}
use mathlib.Core.Bool.{Bool, true, false, ◌||◌}
use Prim.Native.Nat.{ℕ, zero, suc, ◌+◌, ◌-◌, ◌*◌, ◌/◌, ◌%◌, ◌^◌, ◌≤◌, ◌<◌, zero-le, suc-le-suc}
use native.Mathlib.Nat.{mul-one, one-mul, mul_comm, mul_assoc, mul-add, mul_left_comm, le_of_lt, mod-lt, mod-mod, mod-eq_of_lt, add-mod_left, mul-div_cancel', dvd_of_mod-eq-zero, le_of_dvd, div-eq_of_eq-mul_left, mul-le-mul_right, lt_of_mul-lt-mul_left, mul-mod_left}
use native.Mathlib.Decide.{ℕ_discrete, dec_lt}
use native.Mathlib.Omega.{arith}
use borrow.Author.Tests.{eq-eqb, ne_eqb}
use lib.Pow.{pow-add}
use Rattle.gaussian.specs.Types.{Prime, IsOrder, IsType}
use Rattle.gaussian.specs.Table.{some, in_k, in_coset}
use Rattle.gaussian.proofs.Modulo.{mul_mod_right, mul-cong, pow-mul, mul-pow, pow-cong, mul-one-mod, pow-one, order-divides, order-exists}
use Rattle.gaussian.proofs.Soundness.{hit-refutes, zero-type}
use Rattle.gaussian.proofs.Two.{two-whole}

-- the powers of g below its order are distinct
distinct : (g m p : ℕ) → 1 < p → IsOrder m g p → (i j : ℕ) → i < j → j < m → g ^ i % p ≢ g ^ j % p
distinct g m p hp o i j h h' e =
    let d = j - i in
    let shape : m + d ≡ j + (m - i) = omega arith in
    let back : i + (m - i) ≡ m = omega arith in
    let turned =
    ap (λ (x : ℕ). g ^ x % p) shape
    ∙ ap (λ (x : ℕ). x % p) (pow-add g j (m - i))
    ∙ mul-cong (g ^ j) (g ^ i) (g ^ (m - i)) (g ^ (m - i)) p (sym e) refl
    ∙ ap (λ (x : ℕ). x % p) (sym (pow-add g i (m - i)))
    ∙ ap (λ (x : ℕ). g ^ x % p) back
    ∙ o.1 in
    let rest : d ≡ 0 = sym (mod-eq_of_lt (omega arith)) ∙ sym (add-mod_left m d) ∙ order-divides m g p (m + d) hp o turned in
    omega arith

-- some number below a bound passes a test, or none does
some_at : (n : ℕ) (test : ℕ → Bool) (i : ℕ) → i < n → test i ≡ true → some n test ≡ true
unfolding some
some_at zero test i l e = absurd (omega arith)
some_at (suc n) test i l e = elim (ℕ_discrete i n) [
  | yes q ↦ ap (λ b. some n test || b) (ap test (sym q) ∙ e) ∙ or-true (some n test)
  | no q ↦ rw (some_at n test i (omega arith) e)
]
  where
    or-true : (a : Bool) → (a || true) ≡ true
    or-true true = refl
    or-true false = refl

some-none : (n : ℕ) (test : ℕ → Bool) → ((i : ℕ) → i < n → test i ≡ false) → some n test ≡ false
unfolding some
some-none zero test h = refl
some-none (suc n) test h = rw (some-none n test (λ i l. h i (omega arith)), h n (omega arith))

-- a type is not 0
type-pos : (m t : ℕ) → IsType m t → 0 < t
type-pos m zero ty = absurd (zero-type m ty)
type-pos m (suc t) ty = suc-le-suc zero-le

module _ (m t : ℕ) (hm : 1 < m) (ty : IsType m t) where
  abbrev pub p : ℕ
  p = t * m + 1

  hp : Prime p
  hp = ty.0

  m-pos : 0 < m
  m-pos = le_of_lt hm

  pub at_least : m ≤ t * m
  at_least = subst (λ (x : ℕ). x ≤ t * m) (one-mul m) (mul-le-mul_right m (type-pos m t ty))

  p-pos : 0 < p
  p-pos = le_of_lt hp.0

  two-all : 2 ^ (t * m) % p ≡ 1
  two-all =
      let even : t * m ≡ 2 * (t * m / 2) = omega (arith, hp.1 2 (omega arith) (omega (arith, at_least))) in
      rw (← even) at (two-whole (t * m / 2) p (omega arith) hp)

  abbrev pub g : ℕ
  g = 2 ^ t

  g-pow : (j : ℕ) → g ^ j ≡ 2 ^ (t * j)
  g-pow j = sym (pow-mul 2 t j)

  g-whole : g ^ m % p ≡ 1
  g-whole = ap (λ (x : ℕ). x % p) (g-pow m) ∙ two-all

  -- the order of 2 ^ t is m
  g-order : IsOrder m g p
  g-order = (m-pos, g-whole, least)
    where
      least : (j : ℕ) → 0 < j → j < m → g ^ j % p ≢ 1
      least j h h' e =
          let (r, o) = order-exists g p m m-pos g-whole in
          let d = m / r in
          let whole : r * d ≡ m = mul-div_cancel' r (dvd_of_mod-eq-zero r (order-divides r g p m hp.0 o g-whole)) in
          let few = le_of_dvd h (dvd_of_mod-eq-zero r (order-divides r g p j hp.0 o e)) in
          let big : 1 < d = lt_of_mul-lt-mul_left r (omega (arith, whole, mul-one r)) in
          let part : t * m / d ≡ t * r = div-eq_of_eq-mul_left (le_of_lt big) (ap (λ (x : ℕ). t * x) (sym whole) ∙ sym (mul_assoc t r d)) in
          hit-refutes m t m-pos d big (ap (λ (x : ℕ). x % d) (sym whole) ∙ mul-mod_left r d)
          (ap (λ (x : ℕ). 2 ^ x % p) part ∙ ap (λ (x : ℕ). x % p) (sym (g-pow r)) ∙ o.1) ty

  -- x = 2^s·u with u^t = 1 has x^t = g^s
  coset-power : (s u x : ℕ) → u ^ t % p ≡ 1 → 2 ^ s * u % p ≡ x → x ^ t % p ≡ g ^ s % p
  coset-power s u x k e =
      ap (λ (z : ℕ). z ^ t % p) (sym e)
      ∙ pow-cong (2 ^ s * u % p) (2 ^ s * u) p t (mod-mod (2 ^ s * u) p)
      ∙ ap (λ (z : ℕ). z % p) (mul-pow (2 ^ s) u t)
      ∙ mul-one-mod ((2 ^ s) ^ t) (u ^ t) p k
      ∙ ap (λ (z : ℕ). z % p) (sym (pow-mul 2 s t) ∙ ap (λ (z : ℕ). 2 ^ z) (mul_comm s t) ∙ sym (g-pow s))

  -- and x with x^t = g^s is 2^s·u for u = x·2^(-s)
  module _ (s x : ℕ) (hs : s < m) (hx : x < p) (power : x ^ t % p ≡ g ^ s % p) where
    abbrev r : ℕ
    r = t * m - s

    abbrev u : ℕ
    u = x * 2 ^ r % p

    sum : s + r ≡ t * m
    sum = omega (arith, at_least)

    kernel : u ^ t % p ≡ 1
    kernel =
        pow-cong (x * 2 ^ r % p) (x * 2 ^ r) p t (mod-mod (x * 2 ^ r) p)
        ∙ ap (λ (z : ℕ). z % p) (mul-pow x (2 ^ r) t)
        ∙ mul-cong (x ^ t) (2 ^ (t * s)) ((2 ^ r) ^ t) (2 ^ (t * r)) p (power ∙ ap (λ (z : ℕ). z % p) (g-pow s)) (ap (λ (z : ℕ). z % p) (sym (pow-mul 2 r t) ∙ ap (λ (z : ℕ). 2 ^ z) (mul_comm r t)))
        ∙ ap (λ (z : ℕ). z % p) (sym (pow-add 2 (t * s) (t * r)))
        ∙ ap (λ (z : ℕ). 2 ^ z % p) (sym (mul-add t s r) ∙ ap (λ (z : ℕ). t * z) sum ∙ mul_comm t (t * m))
        ∙ pow-one 2 p (t * m) t hp.0 two-all

    turned : 2 ^ s * u % p ≡ x
    turned =
        sym (mul_mod_right (2 ^ s) (x * 2 ^ r) p)
        ∙ ap (λ (z : ℕ). z % p) (mul_left_comm (2 ^ s) x (2 ^ r) ∙ ap (λ (z : ℕ). x * z) (sym (pow-add 2 s r) ∙ ap (λ (z : ℕ). 2 ^ z) sum))
        ∙ mul-one-mod x (2 ^ (t * m)) p two-all
        ∙ mod-eq_of_lt hx

    pub coset-in : in_coset p t s x ≡ true
    unfolding in_coset in_k
    coset-in = some_at p _ u (mod-lt (x * 2 ^ r) p-pos) (rw (eq-eqb _ _ kernel, eq-eqb _ _ turned))

  pub coset-out : (s x : ℕ) → (x ^ t % p ≡ g ^ s % p → ⊥) → in_coset p t s x ≡ false
  unfolding in_coset in_k
  coset-out s x n = some-none p _ (λ u l. elim (ℕ_discrete (u ^ t % p) 1) [
    | yes k ↦ elim (ℕ_discrete (2 ^ s * u % p) x) [
      | yes e ↦ absurd (n (coset-power s u x k e))
      | no e ↦ rw (eq-eqb _ _ k, ne_eqb _ _ e)
    ]
    | no k ↦ rw (ne_eqb _ _ k)
  ])

  -- the powers of g below m are distinct
  pub power-one : (s r : ℕ) → s < m → r < m → g ^ s % p ≡ g ^ r % p → s ≡ r
  power-one s r h h' same = elim (dec_lt s r) [
    | yes l ↦ absurd (distinct g m p hp.0 g-order s r l h' same)
    | no l ↦ elim (dec_lt r s) [
      | yes q ↦ absurd (distinct g m p hp.0 g-order r s q h (sym same))
      | no q ↦ omega arith
    ]
  ]
