-- `gaussian::drawing::flip_row` meets its contract.
use native.Mathlib.Omega.{arith}
use native.Mathlib.Nat.{lt_of_lt_of_le}
use borrow.Author.Tests.{lt-ltb}
use Rattle.gaussian.proofs.AddLaws.{row_same}
use Rattle.gaussian.proofs.drawing.flip_row.Goals as goal

pub returns : goal.returns
returns c = row_same _ _ _ _ c.loop-s.invariant.0 (λ i l. rw (lt-ltb i c.loop-s.s (lt_of_lt_of_le l (omega arith))))
