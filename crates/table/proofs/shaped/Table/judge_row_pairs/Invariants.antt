-- `table::shaped::Table::judge_row_pairs` meets its contract.
use mathlib.Core.Path.{◌≡◌}
use Rattle.judging.specs.Causes.{judged}
use Rattle.judging.specs.FaultTable.{row_pair_causes}
use Rattle.judging.proofs.Searches.{up_to}
use Rattle.table.proofs.Rules.{mirror_causes, MirrorsTo}
use Rattle.table.proofs.shaped.Table.judge_row_pairs.Given as goal

abbrev pub invariant-loop-d : goal.invariant-loop-d
invariant-loop-d l =
    (judged (row_pair_causes l.self.width l.self.bytes.now) ≡ judged (up_to (mirror_causes l.self.width l.self.bytes.now) l.self.width l.d)) × (MirrorsTo l.self.width l.self.bytes.now l.d)
