-- `equivalence::sets::place` meets its contract.
use native.Mathlib.Omega.{arith}
use borrow.Author.Tests.{lt-ltb, le-ltb}
use Rattle.equivalence.proofs.SquareLaws.{place-small, pair_left, pair-right}
use Rattle.equivalence.proofs.sets.place.Goals as goal

pub overflow_sub-result : goal.overflow_sub-result
overflow_sub-result c = (pair_left c.requires.1 c.if-left-width.true).0

pub overflow_add-result : goal.overflow_add-result
overflow_add-result c = omega (arith, c.requires.0, pair_left c.requires.1 c.if-left-width.true)

pub returns-then-left-width : goal.returns-then-left-width
returns-then-left-width c =
    let a = c.args in
    let e = lt-ltb a.left a.width c.if-left-width.true in
    (rw e, rw e at (place-small a.width a.left a.right c.requires.0 c.requires.1))

pub overflow_mul-result-2 : goal.overflow_mul-result-2
overflow_mul-result-2 c = omega (arith, c.requires.0, pair-right c.requires.1 c.if-left-width.false)

pub overflow_add-result-2 : goal.overflow_add-result-2
overflow_add-result-2 c = omega (arith, c.requires.0, pair-right c.requires.1 c.if-left-width.false)

pub returns : goal.returns
returns c =
    let a = c.args in
    let e = le-ltb a.left a.width c.if-left-width.false in
    (rw e, rw e at (place-small a.width a.left a.right c.requires.0 c.requires.1))
