-- A test of types that is passed says what the definitions say: prime, a type, no type, X9.62's choice.
use mathlib.Core.Path.{◌≡◌, sym, ap, ◌∙◌}
use mathlib.Core.Logic.{◌≢◌, ◌⊎◌, inl, inr}
use mathlib.Core.Bool.{Bool, true, false}
use Prim.Native.Nat.{ℕ, zero, suc, ◌+◌, ◌*◌, ◌/◌, ◌%◌, ◌^◌, ◌≤◌, ◌<◌, ◌∣◌}
use native.Mathlib.Nat.{zero-mul, mul_comm, mul_assoc, le_refl, le_trans, le_of_lt, lt_irrefl, mul-le-mul, mul-pos, mul-one, dvd_of_mod-eq-zero, mod-eq-zero_of_dvd, mul-div_cancel', dvd-mul_left_of_dvd, dvd-mul_right, mul-mod_left, div-eq_of_eq-mul_left, le_of_dvd, pos_of_dvd_of_pos, lt_of_mul-lt-mul_left, le_step}
use native.Mathlib.Decide.{ℕ_discrete, dec_le}
use native.Mathlib.Omega.{arith}
use lib.Dec.{T, eqb, ltb, eqb→eq, ltb→lt, lit<}
use borrow.Author.Tests.{eq-eqb}
use Rattle.gaussian.specs.Types.{Prime, IsOrder, IsType, AnsiType}
use Rattle.gaussian.proofs.Entries.{both, both-parts}
use Rattle.gaussian.proofs.Modulo.{order-divides, order-exists, pow-one}
use Rattle.gaussian.proofs.TypeTests.{no_div, divisor, hits, no_hit, hit, is_type, refutes, refutes', no_type, none_below, least_above, not_two, ansi_type}

-- the tests by cases
unless : (a b : Bool) → T (elim a [ true ↦ false | false ↦ b ]) → (T a → ⊥) × T b
unless true b t = absurd t
unless false b t = (λ x. x, t)

pub else : (a b : Bool) → T (elim a [ true ↦ true | false ↦ b ]) → T a ⊎ T b
else true b t = inl tt
else false b t = inr t

pub cases : (a b c : Bool) → T (elim a [ true ↦ b | false ↦ c ]) → (T a × T b) ⊎ ((T a → ⊥) × T c)
cases true b c t = inl (tt, t)
cases false b c t = inr (λ x. x, t)

no_div-sound : (f d p : ℕ) → T (no_div f d p) → (e : ℕ) → d ≤ e → e * e ≤ p → p % e ≢ 0
no_div-sound zero d p t e h h' z = t
no_div-sound (suc f) d p t e h h' z = elim (else (ltb p (d * d)) (elim (eqb (p % d) 0) [ true ↦ false | false ↦ no_div f (suc d) p ]) t) [
  | inl l ↦ absurd (omega (arith, ltb→lt p (d * d) l, mul-le-mul h h))
  | inr s ↦ let q = unless (eqb (p % d) 0) (no_div f (suc d) p) s in elim (ℕ_discrete d e) [
    | yes r ↦ q.0 (rw (eq-eqb (p % d) 0 (ap (λ x. p % x) r ∙ z)) tt)
    | no r ↦ no_div-sound f (suc d) p q.1 e (omega arith) h' z
  ]
]

-- no divisor up to the square root: prime
prime : (p : ℕ) → 1 < p → T (no_div p 2 p) → Prime p
prime p h t = (h, none)
  where
    none : (d : ℕ) → 1 < d → d < p → p % d ≢ 0
    none d h₁ h₂ z =
        let c = p / d in
        let e : d * c ≡ p = mul-div_cancel' d (dvd_of_mod-eq-zero d z) in
        elim (dec_le (d * d) p) [
          | yes q ↦ no_div-sound p 2 p t d h₁ q z
          | no q ↦
              let small : c < d = lt_of_mul-lt-mul_left d (omega (arith, e)) in
              let more : 1 < c = lt_of_mul-lt-mul_left d (omega (arith, e, mul-one d)) in
              no_div-sound p 2 p t c more (le_trans (mul-le-mul (le_of_lt small) (le_refl c)) (omega (arith, e))) (ap (λ x. x % c) (sym e) ∙ mul-mod_left d c)
        ]

no_hit-sound : (m e p n : ℕ) → T (no_hit m e p n) → (d : ℕ) → 1 < d → d ≤ suc n → T (hits m e p d) → ⊥
no_hit-sound m e p zero t d h h' s = absurd (omega arith)
no_hit-sound m e p (suc n) t d h h' s =
    let q = unless (hits m e p (suc (suc n))) (no_hit m e p n) t in
    elim (ℕ_discrete d (suc (suc n))) [
      | yes r ↦ q.0 (rw r at s)
      | no r ↦ no_hit-sound m e p n q.1 d h (omega arith) s
    ]

-- a quotient of a product of three
quotient : (a b c : ℕ) {e : ℕ} → 0 < b → a * (b * c) ≡ e → e / b ≡ a * c
quotient a b c h w = div-eq_of_eq-mul_left h (sym w ∙ ap (λ x. a * x) (mul_comm b c) ∙ sym (mul_assoc a c b))

module _ (m t : ℕ) (hm : 0 < m) where
  abbrev e : ℕ
  e = t * m

  abbrev p : ℕ
  p = t * m + 1

  -- the order of 2 divides what leaves 1
  module _ (above : 1 < p) (k : ℕ) (o : IsOrder k 2 p) where
    part : (n : ℕ) → 2 ^ n % p ≡ 1 → k * (n / k) ≡ n
    part n one = mul-div_cancel' k (dvd_of_mod-eq-zero k (order-divides k 2 p n above o one))

    -- a divisor of e / k and m hits
    common : 2 ^ e % p ≡ 1 → (d : ℕ) → 0 < d → d ∣ e / k → d ∣ m → T (hits m e p d)
    common one d pos h h' =
        let at = quotient k d (e / k / d) pos (ap (λ x. k * x) (mul-div_cancel' d h) ∙ part e one) in
        rw (eq-eqb (m % d) 0 (mod-eq-zero_of_dvd d h'), eq-eqb (2 ^ (e / d) % p) 1 (ap (λ x. 2 ^ x % p) at ∙ pow-one 2 p k (e / k / d) above o.1)) tt

  -- the test of a type
  pub type : 0 < t → T (is_type m t) → IsType m t
  type ht s =
      let q = both-parts (no_div p 2 p) (both (eqb (2 ^ e % p) 1) (no_hit m e p m)) s in
      let r = both-parts (eqb (2 ^ e % p) 1) (no_hit m e p m) q.1 in
      let pos : 0 < e = mul-pos ht hm in
      let above : 1 < p = omega arith in
      let one = eqb→eq (2 ^ e % p) 1 r.0 in
      let (k, o) = order-exists 2 p e pos one in (
        prime p above q.0,
        (
          k,
          o,
          λ d h h'.
              let some = pos_of_dvd_of_pos h' hm in
              elim (ℕ_discrete d 1) [
                | yes q ↦ q
                | no q ↦ absurd (no_hit-sound m e p m r.1 d (omega arith) (le_step (le_of_dvd hm h')) (common above k o one d some h h'))
              ],
        ),
      )

  -- the tests of what is no type
  pub hit-refutes : (n : ℕ) → 1 < n → m % n ≡ 0 → 2 ^ (e / n) % p ≡ 1 → ¬ IsType m t
  hit-refutes n h z one ty =
      let k = ty.1.0 in
      let o = ty.1.1 in
      let d = dvd_of_mod-eq-zero n z in
      let q = quotient n k (e / n / k) o.0 (ap (λ x. n * x) (part ty.0.0 k o (e / n) one) ∙ mul-div_cancel' n (dvd-mul_left_of_dvd n d t)) in
      let all = ty.1.2 n (rw q (dvd-mul_right n (e / n / k))) d in
      omega arith

  pub no-type : T (no_type m t) → ¬ IsType m t
  no-type s ty =
      let d = divisor p 2 p in
      let n = hit m e p m in
      elim (else (refutes p d) (refutes' m e p n) s) [
        | inl r ↦
            let q = both-parts (ltb 1 d) (both (ltb d p) (eqb (p % d) 0)) r in
            let q' = both-parts (ltb d p) (eqb (p % d) 0) q.1 in
            ty.0.1 d (ltb→lt 1 d q.0) (ltb→lt d p q'.0) (eqb→eq (p % d) 0 q'.1)
        | inr r ↦
            let q = both-parts (ltb 1 n) (hits m e p n) r in
            let q' = both-parts (eqb (m % n) 0) (eqb (2 ^ (e / n) % p) 1) q.1 in
            hit-refutes n (ltb→lt 1 n q.0) (eqb→eq (m % n) 0 q'.0) (eqb→eq (2 ^ (e / n) % p) 1 q'.1) ty
      ]

-- 0 is no type: 1 is no prime
pub zero-type : (m : ℕ) → ¬ IsType m 0
zero-type m ty = lt_irrefl 1 (rw zero-mul at ty.0.0)

none_below_lem : (m t : ℕ) → 0 < m → T (none_below m t) → (s : ℕ) → s < t → ¬ IsType m s
none_below_lem m zero hm r s h ty = absurd (omega arith)
none_below_lem m (suc t) hm r s h ty = elim (else (eqb t 0) (both (no_type m t) (none_below m t)) r) [
  | inl q ↦ let z : s ≡ 0 = omega (arith, eqb→eq t 0 q) in zero-type m (rw z at ty)
  | inr q ↦ let q' = both-parts (no_type m t) (none_below m t) q in elim (ℕ_discrete s t) [
    | yes u ↦ no-type m t hm q'.0 (rw u at ty)
    | no u ↦ none_below_lem m t hm q'.1 s (omega arith) ty
  ]
]

-- the test of X9.62's choice: 2 where it is a type, 1, and the least type above 2
module _ (m t : ℕ) (hm : 0 < m) where
  two : t ≡ 2 → T (is_type m 2) → AnsiType m t
  two eq s = inl (type m 2 hm (lit< tt) s, eq)

  one : t ≡ 1 → T (both (no_type m 2) (is_type m 1)) → AnsiType m t
  one eq s = let q = both-parts (no_type m 2) (is_type m 1) s in inr (inl (no-type m 2 hm q.0, type m 1 hm (lit< tt) q.1, eq))

  least_above_lem : T (least_above m t) → AnsiType m t
  least_above_lem s =
      let q = both-parts (ltb 2 t) (both (is_type m t) (none_below m t)) s in
      let r = both-parts (is_type m t) (none_below m t) q.1 in
      let above = ltb→lt 2 t q.0 in
      let none = none_below_lem m t hm r.1 in
      inr (inr (none 2 above, none 1 (omega arith), (type m t hm (omega arith) r.0, none)))

  not-two : T (not_two m t) → AnsiType m t
  not-two s = elim (cases (eqb t 1) (both (no_type m 2) (is_type m 1)) (least_above m t) s) [
    | inl q ↦ one (eqb→eq t 1 q.0) q.1
    | inr q ↦ least_above_lem q.1
  ]

  pub ansi-type : T (ansi_type m t) → AnsiType m t
  ansi-type s = elim (cases (eqb t 2) (is_type m 2) (not_two m t) s) [
    | inl q ↦ two (eqb→eq t 2 q.0) q.1
    | inr q ↦ not-two q.1
  ]
