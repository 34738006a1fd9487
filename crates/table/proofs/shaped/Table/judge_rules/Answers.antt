-- `table::shaped::Table::judge_rules` meets its contract.
use mathlib.Core.List.{[], ◌∷◌}
use Rattle.judging.specs.FaultTable.{row_zero_wrong, row_pair_causes}
use Rattle.judging.proofs.CauseLaws.{ends, follows, handed_on}
use Rattle.table.proofs.shaped.Table.judge_rules.Goals as goal

pub returns-in_err-judge_row_zero : goal.returns-in_err-judge_row_zero
returns-in_err-judge_row_zero c =
    handed_on c.from_residual.result c.from_residual.ensures.1
    (ends (row_zero_wrong _ _ ∷ []) (row_pair_causes _ _) c.judge_row_zero.ensures c.in_err-judge_row_zero.was)

pub returns : goal.returns
returns c = follows (row_zero_wrong _ _ ∷ []) (row_pair_causes _ _) c.judge_row_zero.ensures c.in_ok-judge_row_zero.was c.judge_row_pairs.ensures
