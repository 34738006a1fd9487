-- `card_writer::writing::CardWriter::put_number` meets its contract.
use Rattle.card_writer.proofs.WriteSteps.{short-room, put-short, low-room, high-room, put-long}
use Rattle.card_writer.proofs.writing.CardWriter.put_number.Goals as goal

pub put-requires : goal.put-requires
put-requires c = short-room _ c.if-n-lt128.true c.requires.1

pub returns-then-n-lt128 : goal.returns-then-n-lt128
returns-then-n-lt128 c = put-short _ c.if-n-lt128.true c.put.ensures

pub put-requires-2 : goal.put-requires-2
put-requires-2 c = low-room _ c.if-n-lt128.false c.requires.1

pub put-requires-3 : goal.put-requires-3
put-requires-3 c = high-room _ c.if-n-lt128.false c.requires.1 c.put-2.ensures

pub returns : goal.returns
returns c = put-long _ c.if-n-lt128.false c.put-2.ensures c.put-3.ensures
