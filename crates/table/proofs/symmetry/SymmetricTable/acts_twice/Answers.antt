-- `table::symmetry::SymmetricTable::acts_twice` meets its contract.
use mathlib.Core.Path.{ap, ◌∙◌}
use Prim.Native.Nat.{◌<◌}
use native.Mathlib.Nat.{mod-lt}
use native.Mathlib.Omega.{arith}
use lib.Dec.{eqb}
use Rattle.gf2.specs.Sums.{every}
use Rattle.gf2.specs.Coordinates.{coord}
use Rattle.gf2.specs.Operands.{minus}
use Rattle.gf2.specs.Tables.{row}
use Rattle.limbs.specs.Limbs.{limb_coord}
use Rattle.table.proofs.RowSums.{minus-at, first-test}
use Rattle.table.proofs.symmetry.SymmetricTable.acts_twice.Goals as goal
use Rattle.table.proofs.symmetry.SymmetricTable.acts_twice.Goals.{After-wrapped}

-- the row before row j
before : (c : After-wrapped) → c.wrapped.result < c.args.self.now.table.width
before c = rw c.wrapped.ensures (mod-lt _ (omega (arith, c.args.self.now.table.shaped.least)))

pub rows_at-right-requires : goal.rows_at-right-requires
rows_at-right-requires c = rw c.row.ensures (c.args.self.now.table.shaped.is_table.rows _ c.requires).clear

pub is_square-requires : goal.is_square-requires
is_square-requires c =
    let s = c.args.self.now.table.shaped in
    (omega (arith, s.least), s.greatest, rw c.row-2.ensures (s.is_table.rows _ (before (goal.at.is_square-requires c).After-wrapped)))

pub returns : goal.returns
returns c =
    let right = c.rows_at-right in
    let j = c.args.j in
    let t = c.args.self.now.table in
    let earlier = c.row-2.ensures ∙ ap (row t.width t.bytes.now) (c.wrapped.ensures ∙ minus-at t.width j 1 t.shaped.least) in
    c.is_square.ensures
    ∙ ap (λ x. every t.width (λ i. eqb (limb_coord right.result i) (coord x (minus t.width i 1)))) earlier
    ∙ first-test t.shaped c.args.self.now.symmetric j c.requires right.result (rw c.row.ensures at right.ensures)
