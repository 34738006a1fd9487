-- `card::reading::Reader::number` meets its contract.
use mathlib.Core.Path.{sym}
use Rattle.card.proofs.Numbers.{number-ends, number_short, number-long, second-ends, second-zero, second-third, second-last}
use Rattle.card.proofs.ReadSteps.{told-refused, got-as}
use Rattle.card.proofs.reading.Reader.number.Goals as goal

pub returns-in_err-byte : goal.returns-in_err-byte
returns-in_err-byte c = told-refused _ c.from_residual.result c.from_residual.ensures.1 (number-ends _ (sym c.in_err-byte.ensures))

pub returns-then-low-lt128 : goal.returns-then-low-lt128
returns-then-low-lt128 c = number_short _ (got-as c.from-low.ensures c.in_ok-byte.ensures) c.if-low-lt128.true

pub returns-in_err-byte-2 : goal.returns-in_err-byte-2
returns-in_err-byte-2 c =
    let e = c.from_residual-in_err-byte-2 in
    told-refused _ e.result e.ensures.1
    (number-long _ (got-as c.from-low.ensures c.in_ok-byte.ensures) c.if-low-lt128.false (second-ends _ _ (sym c.in_err-byte-2.ensures)))

pub returns-then-high-eq0 : goal.returns-then-high-eq0
returns-then-high-eq0 c =
    number-long _ (got-as c.from-low.ensures c.in_ok-byte.ensures) c.if-low-lt128.false
    (second-zero _ _ (got-as c.from-high.ensures c.in_ok-byte-2.ensures) c.if-high-eq0.true)

pub returns-then-high-lt128 : goal.returns-then-high-lt128
returns-then-high-lt128 c =
    number-long _ (got-as c.from-low.ensures c.in_ok-byte.ensures) c.if-low-lt128.false
    (second-last _ _ (got-as c.from-high.ensures c.in_ok-byte-2.ensures) c.if-high-eq0.false c.if-high-lt128.true)

pub returns-else-high-lt128 : goal.returns-else-high-lt128
returns-else-high-lt128 c =
    number-long _ (got-as c.from-low.ensures c.in_ok-byte.ensures) c.if-low-lt128.false
    (second-third _ _ (got-as c.from-high.ensures c.in_ok-byte-2.ensures) c.if-high-lt128.false)
