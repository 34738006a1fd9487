-- `ones::row_limbs` meets its contract.
use Rattle.std.proofs.Common.{arith}
use Rattle.ones.proofs.RowLimbs.{row-place, row-none, row-wide, row-some}
use Rattle.ones.proofs.row_limbs.Goals as goal
use Rattle.ones.proofs.row_limbs.Goals.{then-width-d-via-then-width-d, then-width-d-via-else-width-d+then-width-gt-MAX_WIDTH}

pub returns-then-width-d : goal.returns-then-width-d
returns-then-width-d c = elim c.then-width-d.branch [
  | then-width-d-via-then-width-d w ↦ row-none _ _ _ w.if-width-d.true
  | then-width-d-via-else-width-d+then-width-gt-MAX_WIDTH w ↦ row-wide _ _ _ (omega (arith, w.if-width-d.false)) w.if-width-gt-MAX_WIDTH.true
]

pub overflow_mul-d : goal.overflow_mul-d
overflow_mul-d c = let a = c.args in
    omega (arith, row-place a.width a.d _ (omega (arith, c.if-width-d.false)) (omega (arith, c.if-width-gt-MAX_WIDTH.false)) c.bytes_for-size.ensures)

pub returns : goal.returns
returns c = row-some _ _ _ (omega (arith, c.if-width-d.false)) (omega (arith, c.if-width-gt-MAX_WIDTH.false)) c.bytes_for-size.ensures c.min-start.ensures
    c.min-end.ensures c.slice_limbs.ensures
