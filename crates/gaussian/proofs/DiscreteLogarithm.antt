-- Discrete logarithms to the base 2 modulo a prime p = q + 1, with values modulo m = n + 1: a map of the residues but 0 that takes products
-- to sums, and 2 to 1. K is its kernel, the coset 2^s·K what it takes to s.
-- rep s: 2^s, which stands for its coset; log-rep: its logarithm is s.
use mathlib.Core.Path.{◌≡◌, sym, ◌∙◌, ap, ap₂}
use mathlib.Core.Logic.{◌≢◌}
use Prim.Native.Nat.{ℕ, zero, suc, ◌<◌}
use native.Mathlib.Omega.{arith}
use Rattle.gf2.proofs.Index.{Ix, at, o, ◌⊹◌, ◌⊖◌, at-num, at_suc, add-c, add-sub, sub_self}
use Rattle.gaussian.specs.Types.{Prime}
use Rattle.gaussian.proofs.PrimeField.{◌⊗◌, ◌↑◌, one, ⊗-one, ↑-zero, ↑-suc, at≢o, one≢o, ⊗≢o}

pub record Logarithm (q n : ℕ) : Type 0 where
  pub prime : Prime (suc q)
  -- 2 is not 0
  pub more : 1 < q
  pub log : Ix q → Ix n
  pub log-product : (x y : Ix q) → x ≢ o → y ≢ o → log (x ⊗ y) ≡ log x ⊹ log y
  pub log-two : log (at 2) ≡ at 1

module _ {q n : ℕ} (l : Logarithm q n) where
  abbrev pub two : Ix q
  two = at 2

  pub two≢o : two ≢ o
  two≢o = let h = l.more in at≢o 2 (omega arith) (omega arith)

  power≢o : (k : ℕ) → two ↑ k ≢ o
  power≢o zero e = one≢o l.prime (sym (↑-zero two) ∙ e)
  power≢o (suc k) e = ⊗≢o l.prime two (two ↑ k) two≢o (power≢o k) (sym (↑-suc two k) ∙ e)

  pub log-one : l.log one ≡ o
  log-one = sym (add-sub z z) ∙ ap (λ k. k ⊖ z) (sym (l.log-product one one (one≢o l.prime) (one≢o l.prime)) ∙ ap l.log (⊗-one one)) ∙ sub_self z
    where
      z : Ix n
      z = l.log one

  log-power : (k : ℕ) → l.log (two ↑ k) ≡ at k
  log-power zero = ap l.log (↑-zero two) ∙ log-one
  log-power (suc k) = ap l.log (↑-suc two k) ∙ l.log-product two (two ↑ k) two≢o (power≢o k) ∙ ap₂ ◌⊹◌ l.log-two (log-power k) ∙ add-c (at 1) (at k) ∙ at_suc k

  unfoldable pub rep : Ix n → Ix q
  rep s = two ↑ s.num

  pub rep≢o : (s : Ix n) → rep s ≢ o
  unfolding rep
  rep≢o s = power≢o s.num

  pub log-rep : (s : Ix n) → l.log (rep s) ≡ s
  unfolding rep
  log-rep s = log-power s.num ∙ at-num s
