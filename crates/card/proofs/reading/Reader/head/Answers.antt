-- `card::reading::Reader::head` meets its contract.
use mathlib.Core.Path.{sym}
use Rattle.card.proofs.ReadSteps.{told-refused, head-refused, head-some, head-form}
use Rattle.card.proofs.reading.Reader.head.Goals as goal

pub returns-in_err-form : goal.returns-in_err-form
returns-in_err-form c = told-refused _ c.from_residual.result c.from_residual.ensures.1 (head-refused _ _ (sym c.in_err-form.ensures))

pub returns-then-form-ne1 : goal.returns-then-form-ne1
returns-then-form-ne1 c = head-form _ _ (sym c.in_ok-form.ensures) c.if-form-ne1.true

pub returns : goal.returns
returns c = head-some _ _ (sym c.in_ok-form.ensures) c.if-form-ne1.false c.width.ensures
