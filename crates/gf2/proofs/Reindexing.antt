-- Sums over indices along a map that has an inverse: the same terms in another order.
use mathlib.Core.Path.{◌≡◌, sym, ◌∙◌, ap}
use Prim.Native.Nat.{ℕ}
use Rattle.gf2.specs.Operands.{choose}
use Rattle.gf2.proofs.Monoid.{Adds}
use Rattle.gf2.proofs.Index.{Ix}
use Rattle.gf2.proofs.IndexSums.{Σ, Σ-ext, Σ-exchange, Σ-point}
use Rattle.gf2.proofs.Vector.{β, β-refl, β-ne}

module _ {A : Type 0} (M : Adds A) {p : ℕ} where
  -- each term is the sum over all y that has only the one at y = f x; the sums are exchanged
  pub Σ-along : (f g : Ix p → Ix p) → ((x : Ix p) → g (f x) ≡ x) → ((x : Ix p) → f (g x) ≡ x) → (a : Ix p → A) → Σ M (λ x. a (f x)) ≡ Σ M a
  Σ-along f g gf fg a = Σ-ext M (λ x. sym (row x)) ∙ Σ-exchange M term ∙ Σ-ext M column
    where
      term : Ix p → Ix p → A
      term x y = choose (β (f x) y) (a y) M.nil

      row : (x : Ix p) → Σ M (term x) ≡ a (f x)
      row x = Σ-point M (f x) (term x) (λ y n. ap (λ b. choose b (a y) M.nil) (β-ne (f x) y n)) ∙ ap (λ b. choose b (a (f x)) M.nil) (β-refl (f x))

      column : (y : Ix p) → Σ M (λ x. term x y) ≡ a y
      column y = Σ-point M (g y) (λ x. term x y) (λ x n. ap (λ b. choose b (a y) M.nil) (β-ne (f x) y (λ e. n (sym (gf x) ∙ ap g (sym e)))))
          ∙ ap (λ z. choose (β z y) (a y) M.nil) (fg y) ∙ ap (λ b. choose b (a y) M.nil) (β-refl y)
