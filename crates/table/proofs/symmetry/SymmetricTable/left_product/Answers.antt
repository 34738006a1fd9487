-- `table::symmetry::SymmetricTable::left_product` meets its contract.
use mathlib.Core.Path.{◌≡◌, ap, ◌∙◌}
use Prim.Native.Nat.{◌-◌}
use Rattle.gf2.specs.Operands.{turned}
use Rattle.gf2.proofs.Operands.{turned-operand}
use Rattle.table.specs.Inner.{carried_row, rows_at}
use Rattle.table.proofs.Shapes.{row-operand}
use Rattle.table.proofs.RowSums.{at-operand, left-sum}
use Rattle.table.proofs.symmetry.SymmetricTable.left_product.Goals as goal
use Rattle.table.proofs.symmetry.SymmetricTable.left_product.Goals.{After-turned-factor}

-- row i turned back j places
factor : (c : After-turned-factor) → let a = c.args in
    c.turned-factor.result ≡ turned a.self.now.table.width (a.self.now.table.width - a.j) (carried_row a.self.now.table.width a.self.now.table.bytes.now a.i)
factor c = let a = c.args in c.turned-factor.ensures ∙ ap (turned a.self.now.table.width (a.self.now.table.width - a.j)) c.carried_row.ensures

pub turned-factor-requires : goal.turned-factor-requires
turned-factor-requires c = rw c.carried_row.ensures (row-operand c.args.self.now.table.shaped _ c.requires.0)

pub times_first-requires : goal.times_first-requires
times_first-requires c = rw (factor (goal.at.times_first-requires c).After-turned-factor) (turned-operand _ (row-operand c.args.self.now.table.shaped _ c.requires.0).size _)

pub turned-requires : goal.turned-requires
turned-requires c = rw c.times_first.ensures (at-operand _ _ _)

pub returns : goal.returns
returns c =
    let a = c.args in
    let t = a.self.now.table in
    c.turned.ensures
    ∙ ap (turned t.width a.j) (c.times_first.ensures ∙ ap (rows_at t.width t.bytes.now) (factor (goal.at.returns c).After-turned-factor))
    ∙ left-sum t.shaped a.self.now.symmetric a.i a.j c.requires.0 c.requires.1
