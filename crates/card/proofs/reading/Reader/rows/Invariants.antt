-- `card::reading::Reader::rows` meets its contract.
use Rattle.card.proofs.ReadSteps.{RowsTo}
use Rattle.card.proofs.reading.Reader.rows.Given as goal

abbrev pub invariant-loop-d : goal.invariant-loop-d
invariant-loop-d l = RowsTo l.width l.initial.self.left.now l.self.left.now l.initial.table l.table l.d
