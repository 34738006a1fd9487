-- `table::shaped::Table::plus_rows` meets its contract.
use mathlib.Core.Path.{refl, ◌∙◌}
use Prim.Native.Nat.{◌+◌, ◌<◌}
use native.Mathlib.Omega.{arith}
use lib.Count.{count_trailing_zeros, trailing_le}
use Rattle.gf2.proofs.TrailingZeros.{lowest-less}
use Rattle.table.proofs.RowsAtOnes.{ones_none, ones_step, ones-within, ones-clear}
use Rattle.table.proofs.shaped.Table.plus_rows.Goals as goal
use Rattle.table.proofs.shaped.Table.plus_rows.Goals.{In-loop-rest}

-- the row of the lowest one
within : (c : In-loop-rest) → let a = c.args in a.from + count_trailing_zeros 64 c.loop-rest.rest < a.self.now.width
within c =
    let a = c.args in
    let l = c.loop-rest in
    ones-within a.self.now.width a.self.now.bytes.now a.from l.rest l.invariant.0 c.loop-rest-test.true l.invariant.1

pub loop-rest-init : goal.loop-rest-init
loop-rest-init c = (c.ranges.limb.fits, c.requires, λ s h. refl)

pub overflow_cast-zeros : goal.overflow_cast-zeros
overflow_cast-zeros c = omega (arith, trailing_le 64 c.loop-rest.rest)

pub overflow_add-from : goal.overflow_add-from
overflow_add-from c = omega (arith, within c, c.args.self.now.shaped.greatest)

pub plus_row-next-requires : goal.plus_row-next-requires
plus_row-next-requires c = within c

pub loop-rest-smaller : goal.loop-rest-smaller
loop-rest-smaller c = let l = c.loop-rest in lowest-less 64 l.rest l.invariant.0 c.loop-rest-test.true

pub loop-rest-preserved : goal.loop-rest-preserved
loop-rest-preserved c =
    let a = c.args in
    let l = c.loop-rest in
    let some = c.loop-rest-test.true in (
      omega (arith, l.invariant.0, lowest-less 64 l.rest l.invariant.0 some),
      ones-clear a.self.now.width a.self.now.bytes.now a.from l.rest l.invariant.0 some l.invariant.1,
      λ s h. ones_step a.self.now.width a.self.now.bytes.now a.from l.rest l.invariant.0 some l.out _ c.plus_row-next.ensures s h ∙ l.invariant.2 s h,
    )

pub returns : goal.returns
returns c s h = let l = c.loop-rest in ones_none _ _ _ l.out c.loop-rest-test.false s ∙ l.invariant.2 s h
