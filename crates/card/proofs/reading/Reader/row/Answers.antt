-- `card::reading::Reader::row` meets its contract.
use mathlib.Core.Path.{sym}
use Rattle.card.proofs.ReadSteps.{told-no_row, row-refused, row-some, row-far}
use Rattle.card.proofs.reading.Reader.row.Goals as goal

pub returns-in_err-count : goal.returns-in_err-count
returns-in_err-count c = told-no_row _ _ c.from_residual.result c.from_residual.ensures.1 (row-refused _ _ (sym c.in_err-count.ensures))

pub returns-then-width-count : goal.returns-then-width-count
returns-then-width-count c = row-far _ _ (sym c.in_ok-count.ensures) c.if-width-count.true

pub returns : goal.returns
returns c = row-some _ _ (sym c.in_ok-count.ensures) c.if-width-count.false c.places.ensures
