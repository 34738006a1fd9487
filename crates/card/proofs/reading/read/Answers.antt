-- `card::reading::read` meets its contract.
use mathlib.Core.Path.{sym}
use native.Mathlib.Omega.{arith}
use Rattle.card.proofs.Trips.{head-parts}
use Rattle.card.proofs.ReadSteps.{answered-refused, card-head, card-rows, card-tail, card-done}
use Rattle.card.proofs.reading.read.Goals as goal

pub returns-in_err-width : goal.returns-in_err-width
returns-in_err-width c =
    let x = answered-refused c.from_residual.result c.from_residual.ensures.1 (card-head _ _ (sym c.in_err-width.ensures)) in
    record { answer = x.answers; table = x.leaves }

pub rows-requires : goal.rows-requires
rows-requires c = (head-parts _ _ _ _ (sym c.in_ok-width.ensures)).lent.greatest

pub returns-in_err-rows : goal.returns-in_err-rows
returns-in_err-rows c =
    let e = c.from_residual-in_err-rows in
    let x = answered-refused e.result e.ensures.1 (card-rows _ _ (sym c.in_ok-width.ensures) (sym c.in_err-rows.ensures.ends)) in
    record { answer = x.answers; table = x.leaves }

pub returns-then-not-is_empty : goal.returns-then-not-is_empty
returns-then-not-is_empty c =
    let x = card-tail _ _ (sym c.in_ok-width.ensures) (sym c.in_ok-rows.ensures.ends) (search (arith, c.is_empty.ensures, c.if-not-is_empty.true)) in
    record { answer = x.answers; table = x.leaves }

pub rows-requires-2 : goal.rows-requires-2
rows-requires-2 c = (head-parts _ _ _ _ (sym c.in_ok-width.ensures)).lent.greatest

pub returns : goal.returns
returns c =
    let x = card-done _ _ (sym c.in_ok-width.ensures) (sym c.in_ok-rows.ensures.ends) (search (arith, c.is_empty.ensures, c.if-not-is_empty.false)) c.rows-2.ensures in
    record { answer = x.answers; table = x.leaves }
