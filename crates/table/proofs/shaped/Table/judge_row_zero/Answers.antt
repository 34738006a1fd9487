-- `table::shaped::Table::judge_row_zero` meets its contract.
use mathlib.Core.Path.{◌≡◌, sym, ap, ap₂, ◌∙◌}
use mathlib.Core.Bool.{not}
use mathlib.Core.List.{[], ◌∷◌}
use native.Mathlib.Omega.{arith}
use Rattle.gf2.specs.Tables.{row, basis}
use Rattle.judging.specs.FaultTable.{row_zero_wrong}
use Rattle.judging.proofs.CauseLaws.{none-given, head-holds}
use Rattle.gf2.specs.Operands.{same}
use Rattle.gf2.proofs.Carrying.{same-carried}
use Rattle.table.proofs.BasisOperands.{basis-operand}
use Rattle.table.proofs.shaped.Table.judge_row_zero.Goals as goal
use Rattle.table.proofs.shaped.Table.judge_row_zero.Goals.{After-same_bytes}

-- what the test of the carried bytes says of the table's
tested : (c : After-same_bytes) → let a = c.args in c.same_bytes.result ≡ same (row a.self.now.width a.self.now.bytes.now 0) (basis a.self.now.width 1)
tested c =
    let s = c.args.self.now.shaped in
    c.same_bytes.ensures ∙ ap₂ same c.carried_row.ensures c.basis_bytes.ensures
    ∙ same-carried (omega (arith, s.greatest)) (s.is_table.rows 0 (omega (arith, s.least))) (basis-operand _ 1)

pub returns-then-same_bytes : goal.returns-then-same_bytes
returns-then-same_bytes c = sym (none-given (row_zero_wrong _ _ ∷ []) (ap not (sym (tested (goal.at.returns-then-same_bytes c).After-same_bytes) ∙ c.if-same_bytes.true), tt))

pub returns-else-same_bytes : goal.returns-else-same_bytes
returns-else-same_bytes c = sym (head-holds (row_zero_wrong _ _) [] (ap not (sym (tested (goal.at.returns-else-same_bytes c).After-same_bytes) ∙ c.if-same_bytes.false)))
