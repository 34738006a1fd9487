-- Residues modulo p: their products fit; what is a residue; the loop that makes a power.
use mathlib.Core.Path.{◌≡◌, sym, ap, ◌∙◌}
use Prim.Native.Nat.{ℕ, ◌+◌, ◌*◌, ◌/◌, ◌%◌, ◌^◌, ◌<◌, ◌≤◌}
use native.Mathlib.Nat.{lt_of_le_of_lt, mul-le-mul, mul-one, one-mul, mul_assoc, mod-lt, mod-mod, mod-eq_of_lt, pow-zero, pow-suc}
use native.Mathlib.Omega.{arith}
use lib.Pow.{pow-add}
use Rattle.gaussian.specs.Types.{modulus}
use Rattle.gaussian.specs.Inner.{residues, Residue, Drawable}
use Rattle.gaussian.proofs.Modulo.{mul-cong, mul-pow, pow-cong}
use Rattle.gaussian.proofs.TypeBound.{modulus-small, modulus-fits}

-- 64 bits hold the product of two residues
pub product-fits : {p a b : ℕ} → p < residues → Residue p a → Residue p b → a * b < 2 ^ 64
product-fits small ra rb = lt_of_le_of_lt (mul-le-mul (omega (arith, ra)) (omega (arith, rb))) (modulus-fits small).multiplied

-- what is left modulo p is a residue
pub residue-of : {p a b : ℕ} (x : ℕ) → b ≡ x % p → Residue p a → Residue p b
residue-of x e r = rw e (mod-lt x (omega arith))

-- the p of a width and type that can be drawn
pub drawable-small : {m t : ℕ} → Drawable m t → modulus m t < residues
drawable-small d = modulus-small d.small d.greatest

-- the digit 1
pub digit-one : (p r x e : ℕ) → (e % 2 ≡ 0 → ⊥) → r * x % p ≡ r * x ^ (e % 2) % p
digit-one p r x e n = let one : e % 2 ≡ 1 = omega arith in rw one (ap (λ y. r * y % p) (sym (one_power x)))
  where
    one_power : (x : ℕ) → x ^ 1 ≡ x
    one_power x = pow-suc x 0 ∙ ap (λ y. y * x) (pow-zero x) ∙ one-mul x

-- x^e is r times the power of `square` that is left
pub record PowerLoop (x e p r square left : ℕ) : Type 0 where
  pub done : Residue p r
  pub factor : Residue p square
  pub value : r * square ^ left % p ≡ x ^ e % p

pub power-more : {x e p r square left n k : ℕ} → PowerLoop x e p r square left → n ≡ r * square ^ (left % 2) % p → k ≡ square * square % p → PowerLoop x e p n k (left / 2)
power-more {x} {e} {p} {r} {square} {left} {n} {k} l en ek = record {
  done = residue-of _ en l.done;
  factor = residue-of _ ek l.factor;
  value =
      mul-cong n (r * square ^ b) (k ^ q) ((square * square) ^ q) p (ap (λ y. y % p) en ∙ mod-mod _ p) (pow-cong k (square * square) p q (ap (λ y. y % p) ek ∙ mod-mod _ p))
      ∙ ap (λ y. y % p) whole ∙ l.value;
}
  where
    b : ℕ
    b = left % 2

    q : ℕ
    q = left / 2

    whole : r * square ^ b * (square * square) ^ q ≡ r * square ^ left
    whole =
        mul_assoc r (square ^ b) ((square * square) ^ q)
        ∙ ap (λ y. r * (square ^ b * y)) (mul-pow square square q ∙ sym (pow-add square q q))
        ∙ ap (λ y. r * y) (sym (pow-add square b (q + q)))
        ∙ ap (λ y. r * square ^ y) (digits left)
      where
        digits : (n : ℕ) → n % 2 + (n / 2 + n / 2) ≡ n
        digits n = omega arith

pub power-done : {x e p r square left : ℕ} → PowerLoop x e p r square left → left ≤ 0 → r ≡ x ^ e % p
power-done {x} {e} {p} {r} {square} {left} l h =
    let z : left ≡ 0 = omega arith in
    sym (ap (λ y. r * square ^ y % p) z ∙ rw (pow-zero, mul-one) (mod-eq_of_lt l.done)) ∙ l.value
