-- `list_folds::terms::first_term` meets its contract.
use mathlib.Core.Path.{◌≡◌, refl, ap, ◌∙◌}
use Prim.Native.Nat.{◌+◌}
use native.Mathlib.Omega.{arith}
use Rattle.netlist.specs.Lists.{only, and_wire}
use Rattle.list_folds.specs.Folds.{fresh}
use Rattle.list_folds.specs.TableFolds.{square_term}
use Rattle.list_folds.proofs.WriteLaws.{push-none, push-first, push-only}
use Rattle.list_folds.proofs.terms.first_term.Goals as goal
use Rattle.list_folds.proofs.terms.first_term.Goals.{After-row_base-base}

pub returns-then-not-square : goal.returns-then-not-square
unfolding square_term only
returns-then-not-square c = (refl, λ out. rw c.if-not-square.true (push-none _ _ _))

pub returns : goal.returns
unfolding square_term
returns c =
    let a = c.args in
    let i = c.minus-i.result in
    let wire : c.row_base-base.result + i ≡ and_wire a.width i i = omega (arith, c.row_base-base.ensures) in
    (refl, λ out. push-only c.if-not-square.false (wire ∙ ap (λ k. and_wire a.width k k) c.minus-i.ensures.0) (push-first a.width (fresh a.n) _ out refl))
