-- The remainder of a product.
use mathlib.Core.Path.{◌≡◌, sym, ap, ◌∙◌}
use Prim.Native.Nat.{ℕ, ◌+◌, ◌*◌, ◌/◌, ◌%◌}
use native.Mathlib.Nat.{mul_right_comm, add-mul, mod-add-div', add-mul-mod_self_right}

-- a factor may be replaced by its remainder
pub mul_mod_left : (a b p : ℕ) → a * b % p ≡ (a % p) * b % p
mul_mod_left a b p =
    ap (λ (x : ℕ). x % p)
    (ap (λ (x : ℕ). x * b) (sym (mod-add-div' a p)) ∙ add-mul (a % p) (a / p * p) b ∙ ap (λ (x : ℕ). a % p * b + x) (mul_right_comm (a / p) p b))
    ∙ add-mul-mod_self_right (a % p * b) (a / p * b) p
