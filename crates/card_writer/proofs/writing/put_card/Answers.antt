-- `card_writer::writing::put_card` meets its contract.
use mathlib.Core.Path.{refl}
use native.Mathlib.Nat.{zero-add}
use native.Mathlib.Omega.{arith}
use borrow.Author.Rules.{rules}
use Rattle.card_writer.proofs.WriteSteps.{in-first, in-second, in-front, card-room, card-put}
use Rattle.card_writer.proofs.writing.put_card.Goals as goal

pub put_number-requires : goal.put_number-requires
put_number-requires c =
    let t = c.args.table.now in
    (omega arith, in-first _ _ (card-room t.width t.bytes.now t.shaped.greatest refl))

pub put_number-requires-2 : goal.put_number-requires-2
put_number-requires-2 c =
    let t = c.args.table.now in
    let g = t.shaped.greatest in
    rw c.width.ensures (omega arith, in-first _ _ (in-front (omega arith) (in-second c.put_number.ensures (card-room t.width t.bytes.now g refl))))

pub put_rows-requires : goal.put_rows-requires
put_rows-requires c =
    let t = c.args.table.now in
    in-second (rw c.width.ensures at c.put_number-2.ensures) (in-front (omega arith) (in-second c.put_number.ensures (card-room t.width t.bytes.now t.shaped.greatest refl)))

pub returns : goal.returns
returns c =
    let p = card-put _ _ c.put_number.ensures (rw c.width.ensures at c.put_number-2.ensures) c.put_rows.ensures in
    let name = p.same_output in
    let stored = p.stored in
    record { length = rw zero-add at p.ends; out = search rules }
