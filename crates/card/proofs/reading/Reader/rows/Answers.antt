-- `card::reading::Reader::rows` meets its contract.
use mathlib.Core.Path.{refl, sym}
use Rattle.judging.proofs.CauseLaws.{handed_on}
use Rattle.card.proofs.ReadSteps.{carried-got, carried-refused, rows-none, rows-refused, rows_more, rows-done}
use Rattle.card.proofs.reading.Reader.rows.Goals as goal

pub loop-d-init : goal.loop-d-init
loop-d-init c = rows-none _ _ _

pub returns-in_err-row : goal.returns-in_err-row
returns-in_err-row c =
    rw (handed_on c.from_residual.result c.from_residual.ensures.1 refl)
    (rows-refused c.loop-d.invariant c.loop-d-test.true (carried-refused _ _ (sym c.in_err-row.ensures)))

pub loop-d-preserved : goal.loop-d-preserved
loop-d-preserved c =
    let size = c.bytes_for-size.ensures in
    let row = carried-got _ _ (sym c.in_ok-row.ensures) in
    rows_more c.loop-d.invariant c.requires c.loop-d-test.true row.1 row.2 (rw size at c.put_bytes.ensures) c.put_bytes.auto.out

pub returns : goal.returns
returns c = rows-done c.loop-d.invariant c.loop-d-test.false
