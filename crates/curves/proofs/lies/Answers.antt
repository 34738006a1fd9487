-- `curves::lies` meets its contract.
use mathlib.Core.Path.{◌≡◌, sym, ◌∙◌}
use native.Mathlib.Omega.{arith}
use borrow.Author.Tests.{le-leb, lt-leb}
use Rattle.gf2.specs.Operands.{max_width}
use Rattle.operand.specs.Calls.{sum_call}
use Rattle.curves.specs.Published.{published}
use Rattle.curves.proofs.lies.Goals as goal
use Rattle.curves.proofs.lies.Goals.{After-sum}

-- the point's y, changed
changed : (c : After-sum) → let a = c.args in c.sum.result ≡ sum_call (published a.width a.y.now) (published a.width a.change.now)
changed c = rw (c.operand-3.ensures, c.operand-4.ensures) at c.sum.ensures

pub returns-then-width-gt-MAX_WIDTH : goal.returns-then-width-gt-MAX_WIDTH
returns-then-width-gt-MAX_WIDTH c = rw (lt-leb _ _ c.if-width-gt-MAX_WIDTH.true)

pub returns-in-Ok : goal.returns-in-Ok
returns-in-Ok c =
    rw (
      le-leb c.args.width max_width (omega (arith, c.if-width-gt-MAX_WIDTH.false)),
      sym (changed (goal.at.returns-in-Ok c).After-sum) ∙ c.in-Ok.is,
      c.has.ensures,
      c.operand.ensures,
      c.operand-2.ensures,
      c.operand-in-Ok.ensures,
    )

pub returns-in-Err : goal.returns-in-Err
returns-in-Err c =
    rw (
      le-leb c.args.width max_width (omega (arith, c.if-width-gt-MAX_WIDTH.false)),
      sym (changed (goal.at.returns-in-Err c).After-sum) ∙ c.in-Err.is,
    )
