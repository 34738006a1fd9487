-- `table::symmetry::SymmetricTable::associative` meets its contract.
use mathlib.Core.Path.{sym, ap, ap₂, ◌∙◌}
use native.Mathlib.Omega.{arith}
use Rattle.table.specs.Inner.{associates}
use Rattle.gf2.specs.Operands.{same}
use Rattle.gf2.proofs.Carrying.{same-carried}
use Rattle.table.proofs.BasisOperands.{left-operand, right_operand}
use Rattle.table.proofs.symmetry.SymmetricTable.associative.Goals as goal

pub returns-then-i-eq0 : goal.returns-then-i-eq0
returns-then-i-eq0 c = let a = c.args in c.acts_twice.ensures ∙ ap (λ i. associates a.self.now.table.width a.self.now.table.bytes.now i a.j) (sym c.if-i-eq0.true)

pub returns : goal.returns
unfolding associates
returns c =
    c.same_bytes.ensures
    ∙ ap₂ same c.left_product.ensures c.right_product.ensures
    ∙ same-carried (omega (arith, c.args.self.now.table.shaped.greatest)) (left-operand _ _ _ _) (right_operand _ _ _ _)
