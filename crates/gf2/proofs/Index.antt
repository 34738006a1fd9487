-- The indices 0 .. p, added and subtracted modulo m = p + 1.
-- Ix p: an index; ix-dec: whether two are one; at n: the index that a number stands for; ◌⊹◌, ◌⊖◌: sum and difference and their laws.
-- num-minus: the crate's minus is the difference.
use mathlib.Core.Path.{◌≡◌, refl, sym, ◌∙◌, ap}
use mathlib.Core.HLevel.{is_prop→PathP}
use Prim.Native.Nat.{ℕ, zero, suc, ◌+◌, ◌-◌, ◌%◌, ◌<◌, ◌≤◌}
use native.Mathlib.Nat.{mod-lt, mod-eq_of_lt, mod_self, mod-mod, mod-add-mod, add-mod-mod, add_comm, add_assoc, zero-mod}
use native.Mathlib.Bridge.{le_prop}
use native.Mathlib.Decide.{ℕ_discrete}
use native.Mathlib.Omega.{arith}
use Rattle.gf2.specs.Operands.{minus}

pub record Ix (p : ℕ) : Type 0 where
  pub num : ℕ
  pub below : num < suc p

module _ {p : ℕ} where
  infixl 65 ◌⊹◌ ◌⊖◌
  pub ix-path : {x y : Ix p} → x.num ≡ y.num → x ≡ y
  ix-path {x} {y} e i = record { num = e i; below = is_prop→PathP (λ j. e j < suc p) (λ j. le_prop) x.below y.below i }

  pub ix-dec : (x y : Ix p) → Dec (x ≡ y)
  ix-dec x y = elim (ℕ_discrete x.num y.num) [
    | yes e ↦ yes (ix-path e)
    | no n ↦ no (λ e. n (ap (λ (z : Ix p). z.num) e))
  ]

  pub at : ℕ → Ix p
  at n = record { num = n % suc p; below = mod-lt n (omega arith) }

  abbrev pub o : Ix p
  o = at zero

  pub ◌⊹◌ : Ix p → Ix p → Ix p
  x ⊹ y = at (x.num + y.num)

  pub ◌⊖◌ : Ix p → Ix p → Ix p
  x ⊖ y = x ⊹ at (suc p - y.num)

  pub num-at : (n : ℕ) → n < suc p → (at n).num ≡ n
  unfolding at
  num-at n h = mod-eq_of_lt h

  -- numbers stand for one index exactly when they leave one remainder
  pub at_same : (a b : ℕ) → a % suc p ≡ b % suc p → at a ≡ at b
  unfolding at
  at_same a b e = ix-path e

  pub at-eq : (a b : ℕ) → at a ≡ at b → a % suc p ≡ b % suc p
  unfolding at
  at-eq a b e = ap (λ (x : Ix p). x.num) e

  pub at-num : (x : Ix p) → at x.num ≡ x
  at-num x = ix-path (num-at x.num x.below)

  pub at-add : (a b : ℕ) → at a ⊹ at b ≡ at (a + b)
  unfolding at ◌⊹◌
  at-add a b = ix-path (simp (mod-add-mod, add-mod-mod))

  pub at_suc : (n : ℕ) → at n ⊹ at 1 ≡ at (suc n)
  at_suc n = at-add n 1 ∙ ap at (omega arith)

  pub at_all : at (suc p) ≡ o
  unfolding at
  at_all = ix-path (mod_self (suc p) ∙ sym (zero-mod (suc p)))

  pub add-c : (x y : Ix p) → x ⊹ y ≡ y ⊹ x
  unfolding ◌⊹◌
  add-c x y = rw (add_comm x.num y.num)

  pub add_a : (x y z : Ix p) → (x ⊹ y) ⊹ z ≡ x ⊹ (y ⊹ z)
  unfolding ◌⊹◌ at
  add_a x y z = ix-path (simp (mod-add-mod, add-mod-mod, add_assoc))

  pub add_right : (x y z : Ix p) → (x ⊹ y) ⊹ z ≡ (x ⊹ z) ⊹ y
  add_right x y z = add_a x y z ∙ ap (λ w. x ⊹ w) (add-c y z) ∙ sym (add_a x z y)

  pub z-add : (x : Ix p) → o ⊹ x ≡ x
  z-add x = ap (λ y. o ⊹ y) (sym (at-num x)) ∙ at-add zero x.num ∙ ap at (omega arith) ∙ at-num x

  pub add-z : (x : Ix p) → x ⊹ o ≡ x
  add-z x = add-c x o ∙ z-add x

  pub add-sub : (x y : Ix p) → (x ⊹ y) ⊖ y ≡ x
  unfolding ◌⊖◌
  add-sub x y = add_a x y (at (suc p - y.num)) ∙ ap (λ z. x ⊹ z) cancel ∙ add-z x
    where
      cancel : y ⊹ at (suc p - y.num) ≡ o
      cancel = let l = y.below in
          ap (λ z. z ⊹ at (suc p - y.num)) (sym (at-num y)) ∙ at-add y.num (suc p - y.num) ∙ ap at (omega arith) ∙ at_all

  pub sub-add : (x y : Ix p) → (x ⊖ y) ⊹ y ≡ x
  unfolding ◌⊖◌
  sub-add x y = add_a x (at (suc p - y.num)) y ∙ ap (λ z. x ⊹ z) (add-c (at (suc p - y.num)) y) ∙ sym (add_a x y (at (suc p - y.num))) ∙ add-sub x y

  -- from here on the sum and the difference stay shut
  pub sub-eq : (x y z : Ix p) → z ⊹ y ≡ x → x ⊖ y ≡ z
  sub-eq x y z e = rw (← e) (add-sub z y)

  pub sub_self : (x : Ix p) → x ⊖ x ≡ o
  sub_self x = sub-eq x x o (z-add x)

  pub sub-z : (x : Ix p) → x ⊖ o ≡ x
  sub-z x = sub-eq x o x (add-z x)

  pub sub-both : (x y z : Ix p) → (x ⊹ z) ⊖ (y ⊹ z) ≡ x ⊖ y
  sub-both x y z = sub-eq (x ⊹ z) (y ⊹ z) (x ⊖ y) (rw (← add_a, sub-add))

  pub sub-sum : (x y z : Ix p) → x ⊖ (y ⊹ z) ≡ x ⊖ z ⊖ y
  sub-sum x y z = sub-eq x (y ⊹ z) (x ⊖ z ⊖ y) (rw (← add_a, sub-add, sub-add))

  pub at-sub : (a b : ℕ) → b ≤ a → at (a - b) ≡ at a ⊖ at b
  at-sub a b h = sym (sub-eq (at a) (at b) (at (a - b)) (at-add (a - b) b ∙ ap at (omega arith)))

  pub at-neg : (d : ℕ) → d ≤ suc p → at (suc p - d) ≡ o ⊖ at d
  at-neg d h = at-sub (suc p) d h ∙ ap (λ z. z ⊖ at d) at_all

  pub add-neg : (x y : Ix p) → x ⊹ (o ⊖ y) ≡ x ⊖ y
  add-neg x y = sym (sub-eq x y (x ⊹ (o ⊖ y)) (add_a x (o ⊖ y) y ∙ ap (λ z. x ⊹ z) (sub-add o y) ∙ add-z x))

  pub sub-twice : (x y : Ix p) → x ⊖ (x ⊖ y) ≡ y
  sub-twice x y = sub-eq x (x ⊖ y) y (add-c y (x ⊖ y) ∙ sub-add x y)

  -- the crate's i - k
  pub num-minus : (x : Ix p) (k : ℕ) → minus (suc p) x.num k ≡ (x ⊖ at k).num
  unfolding minus ◌⊖◌ ◌⊹◌ at
  num-minus x k = sym (add-mod-mod x.num (suc p - k % suc p) (suc p))

  pub at-minus : (i k : ℕ) → at (minus (suc p) i k) ≡ at i ⊖ at k
  unfolding minus ◌⊖◌ ◌⊹◌ at
  at-minus i k = ix-path (simp (mod-mod, mod-add-mod, add-mod-mod))

-- the number of the index that a number stands for
pub at-mod : (p n : ℕ) → (at {p = p} n).num ≡ n % suc p
unfolding at
at-mod p n = refl
