-- `table::shaped::Table::new` meets its contract.
use mathlib.Core.Path.{sym, ◌∙◌}
use Rattle.table.proofs.Shapes.{shaped}
use Rattle.table.proofs.shaped.Table.new.Goals as goal

pub invariant_of-result : goal.invariant_of-result
invariant_of-result c = record { shaped = shaped (λ i. (c.type_inv.bytes i).fits) (sym c.judge_shape.ensures ∙ c.in_ok-judge_shape.was) }
