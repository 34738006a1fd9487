-- `card_writer::writing::CardWriter::put_places` meets its contract.
use Prim.Native.Nat.{◌-◌}
use Rattle.card_writer.proofs.WriteSteps.{StepsTo}
use Rattle.card_writer.proofs.writing.CardWriter.put_places.Given as goal

abbrev pub invariant-loop : goal.invariant-loop
invariant-loop l = StepsTo l.row l.initial.self l.self l.free (l.count - l.counter)
