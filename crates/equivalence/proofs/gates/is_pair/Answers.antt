-- `equivalence::gates::is_pair` meets its contract.
use borrow.Author.Tests.{lt-ltb, le-ltb, le-leb, lt-leb}
use Rattle.equivalence.proofs.gates.is_pair.Goals as goal

pub returns-then-width-a : goal.returns-then-width-a
returns-then-width-a c = rw (le-ltb _ _ c.if-width-a.true)

pub returns-then-b-width : goal.returns-then-b-width
returns-then-b-width c = rw (lt-ltb _ _ c.if-width-a.false, lt-leb _ _ c.if-b-width.true)

pub returns : goal.returns
returns c = rw (lt-ltb _ _ c.if-width-a.false, le-leb _ _ c.if-b-width.false)
