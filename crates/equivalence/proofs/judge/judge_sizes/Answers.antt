-- `equivalence::judge::judge_sizes` meets its contract.
use mathlib.Core.List.{[], ◌∷◌}
use Rattle.judging.specs.FaultTable.{bad_width, not_table}
use Rattle.judging.proofs.CauseLaws.{ends, follows, handed_on}
use Rattle.runner.specs.Causes.{list_word_causes}
use Rattle.equivalence.proofs.judge.judge_sizes.Goals as goal

pub returns-in_err-judge_table_size : goal.returns-in_err-judge_table_size
returns-in_err-judge_table_size c =
    let a = c.args in
    handed_on c.from_residual.result c.from_residual.ensures.1
    (ends (bad_width a.list.now.width ∷ not_table a.list.now.width a.table.now ∷ []) (list_word_causes a.list.now.width a.list.now.words.now) c.judge_table_size.ensures c.in_err-judge_table_size.was)

pub returns : goal.returns
returns c =
    let a = c.args in
    follows (bad_width a.list.now.width ∷ not_table a.list.now.width a.table.now ∷ []) (list_word_causes a.list.now.width a.list.now.words.now) c.judge_table_size.ensures c.in_ok-judge_table_size.was
    c.judge_words.ensures
