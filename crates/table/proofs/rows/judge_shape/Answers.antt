-- `table::rows::judge_shape` meets its contract.
use mathlib.Core.Path.{sym, ◌∙◌}
use mathlib.Core.List.{[], ◌∷◌}
use Rattle.judging.specs.FaultTable.{high_bit_in_row}
use Rattle.judging.proofs.CauseLaws.{ends, follows, handed_on}
use Rattle.table.proofs.Shapes.{size_causes, size-fine}
use Rattle.table.proofs.rows.judge_shape.Goals as goal

pub returns-in_err-judge_table_size : goal.returns-in_err-judge_table_size
returns-in_err-judge_table_size c =
    let a = c.args in
    handed_on c.from_residual.result c.from_residual.ensures.1
    (ends (size_causes a.width a.table.now) (high_bit_in_row a.width a.table.now ∷ []) c.judge_table_size.ensures c.in_err-judge_table_size.was)

pub judge_ends-requires : goal.judge_ends-requires
judge_ends-requires c =
    let a = c.args in
    let g = size-fine a.width a.table.now (sym c.judge_table_size.ensures ∙ c.in_ok-judge_table_size.was) in
    (g.greatest, g.exact)

pub returns : goal.returns
returns c =
    let a = c.args in
    follows (size_causes a.width a.table.now) (high_bit_in_row a.width a.table.now ∷ []) c.judge_table_size.ensures c.in_ok-judge_table_size.was c.judge_ends.ensures
