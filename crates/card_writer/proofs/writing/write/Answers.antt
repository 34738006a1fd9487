-- `card_writer::writing::write` meets its contract.
use mathlib.Core.Path.{◌≡◌, ap₂}
use Rattle.card.specs.Cards.{card}
use Rattle.judging.proofs.CauseLaws.{handed_on, verdict_err, verdict_ok}
use Rattle.card_writer.proofs.WriteSteps.{wrote-shape, wrote-short, wrote-card}
use Rattle.card_writer.proofs.writing.write.Goals as goal
use Rattle.card_writer.proofs.writing.write.Goals.{In_ok-table}

pub returns-in_err-table : goal.returns-in_err-table
returns-in_err-table c =
    let x = wrote-shape _ _ _ (verdict_err c.new.ensures.verdict c.in_err-table.was) in
    record { answer = handed_on c.from_residual.result c.from_residual.ensures.1 x.answers; out = x.leaves }

-- the card that is put is that of what was given
is_card : (c : In_ok-table) → card c.in_ok-table.table.width c.in_ok-table.table.bytes.now ≡ card c.args.width c.args.table.now
is_card c = let same = c.in_ok-table.ensures.same in ap₂ card same.0 same.1

pub returns-then-out-size : goal.returns-then-out-size
returns-then-out-size c =
    let e = is_card (goal.at.returns-then-out-size c).In_ok-table in
    let x = wrote-short _ _ _ (verdict_ok c.new.ensures.verdict c.in_ok-table.was) (rw (c.put_card-size.ensures.length, e) at c.if-out-size.true) in
    record { answer = x.answers; out = x.leaves }

pub returns : goal.returns
returns c =
    let e = is_card (goal.at.returns c).In_ok-table in
    let n = c.put_card-size.ensures.length in
    let x = wrote-card _ _ _ (verdict_ok c.new.ensures.verdict c.in_ok-table.was) (rw (n, e) at c.if-out-size.false) (rw e at c.put_card.ensures.out) in
    record { answer = rw (n, e) x.answers; out = x.leaves }
