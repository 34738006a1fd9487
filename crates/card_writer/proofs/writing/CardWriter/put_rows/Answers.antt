-- `card_writer::writing::CardWriter::put_rows` meets its contract.
use Prim.Native.Nat.{◌<◌}
use native.Mathlib.Omega.{arith}
use Rattle.card_writer.proofs.WriteSteps.{rows_start, rows-room, rows_more, rows-done}
use Rattle.card_writer.proofs.writing.CardWriter.put_rows.Goals as goal

pub loop-d-init : goal.loop-d-init
loop-d-init c = rows_start _ _ _

pub put_row-requires : goal.put_row-requires
put_row-requires c =
    let below : c.loop-d.d < c.args.table.now.width = omega arith in
    (below, rows-room c.loop-d.invariant c.requires below)

pub loop-d-preserved : goal.loop-d-preserved
loop-d-preserved c = rows_more c.loop-d.invariant (omega arith) c.put_row.ensures

pub returns : goal.returns
returns c = rows-done c.loop-d.invariant (omega arith)
