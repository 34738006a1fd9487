-- `table::symmetry::SymmetricTable::right_product` meets its contract.
use mathlib.Core.Path.{◌≡◌, ap, ◌∙◌}
use Prim.Native.Nat.{◌<◌}
use native.Mathlib.Nat.{mod-lt}
use native.Mathlib.Omega.{arith}
use Rattle.gf2.specs.Operands.{turned}
use Rattle.gf2.proofs.Operands.{turned-operand}
use Rattle.table.specs.Inner.{carried_row, rows_at}
use Rattle.table.proofs.Shapes.{row-operand}
use Rattle.table.proofs.RowSums.{minus-at, right-sum}
use Rattle.table.proofs.symmetry.SymmetricTable.right_product.Goals as goal
use Rattle.table.proofs.symmetry.SymmetricTable.right_product.Goals.{After-turned-factor, After-wrapped-d}

-- the row that is turned
within : (c : After-wrapped-d) → c.wrapped-d.result < c.args.self.now.table.width
within c = rw c.wrapped-d.ensures (mod-lt _ (omega (arith, c.args.self.now.table.shaped.least)))

-- row j-i turned i places
factor : (c : After-turned-factor) → let a = c.args in
    c.turned-factor.result ≡ turned a.self.now.table.width a.i (carried_row a.self.now.table.width a.self.now.table.bytes.now c.wrapped-d.result)
factor c = let a = c.args in c.turned-factor.ensures ∙ ap (turned a.self.now.table.width a.i) c.carried_row.ensures

pub turned-factor-requires : goal.turned-factor-requires
turned-factor-requires c = rw c.carried_row.ensures (row-operand c.args.self.now.table.shaped _ (within (goal.at.turned-factor-requires c).After-wrapped-d))

pub times_first-requires : goal.times_first-requires
times_first-requires c =
    rw (factor (goal.at.times_first-requires c).After-turned-factor) (turned-operand _ (row-operand c.args.self.now.table.shaped _ (within (goal.at.times_first-requires c).After-wrapped-d)).size _)

pub returns : goal.returns
returns c =
    let a = c.args in
    let t = a.self.now.table in
    let row = ap (λ d. turned t.width a.i (carried_row t.width t.bytes.now d)) (c.wrapped-d.ensures ∙ minus-at t.width a.j a.i c.requires.0) in
    c.times_first.ensures ∙ ap (rows_at t.width t.bytes.now) (factor (goal.at.returns c).After-turned-factor ∙ row) ∙ right-sum t.shaped a.i a.j c.requires.0 c.requires.1
