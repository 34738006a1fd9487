-- `list_folds::columns::fill_row` meets its contract. The invariant: the row has its coordinates before s, and s is one of its ones or past it.
use mathlib.Core.Path.{◌≡◌}
use native.Mathlib.Omega.{arith}
use Rattle.ones.specs.RowLimbs.{row_limbs}
use Rattle.list_folds.proofs.ColumnLaws.{row-none, row_more, row_next, row-after}
use Rattle.list_folds.proofs.columns.fill_row.Goals as goal
use Rattle.list_folds.proofs.columns.fill_row.Goals.{After-row_limbs-row}

-- the row's limbs are those of the table's
limbs-of : (c : After-row_limbs-row) → let t = c.args.table.now in c.row_limbs-row.result ≡ row_limbs t.width t.bytes.now c.args.d
limbs-of c = rw (c.width-width.ensures, c.bytes.ensures) at c.row_limbs-row.ensures

pub loop-s-init : goal.loop-s-init
loop-s-init c =
    row_next c.requires (limbs-of (goal.at.loop-s-init c).After-row_limbs-row) c.next_one-s.ensures row-none

pub loop-s-smaller : goal.loop-s-smaller
loop-s-smaller c =
    omega (arith, c.loop-s-test.true, c.width-width.ensures, row-after c.requires (limbs-of (goal.at.loop-s-smaller c).After-row_limbs-row) c.next_one-s-in-loop-s.ensures)

pub loop-s-preserved : goal.loop-s-preserved
loop-s-preserved c =
    let v = c.loop-s.invariant in
    let l = rw c.width-width.ensures at c.loop-s-test.true in
    row_next c.requires (limbs-of (goal.at.loop-s-preserved c).After-row_limbs-row) c.next_one-s-in-loop-s.ensures (row_more c.requires l (v.1 l) v.0)
