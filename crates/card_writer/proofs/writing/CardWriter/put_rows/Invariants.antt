-- `card_writer::writing::CardWriter::put_rows` meets its contract.
use Rattle.card_writer.proofs.WriteSteps.{RowsPut}
use Rattle.card_writer.proofs.writing.CardWriter.put_rows.Given as goal

abbrev pub invariant-loop-d : goal.invariant-loop-d
invariant-loop-d l = RowsPut l.table.width l.table.bytes.now l.initial.self l.self l.d
