-- `table::shaped::Table::mirrored` meets its contract.
use mathlib.Core.Path.{◌≡◌, ap, ◌∙◌}
use Prim.Native.Nat.{◌-◌}
use lib.Dec.{eqb}
use Rattle.gf2.specs.Sums.{every}
use Rattle.gf2.specs.Coordinates.{coord}
use Rattle.gf2.specs.Operands.{turned}
use Rattle.limbs.specs.Limbs.{limb_coord, limbs_of}
use Rattle.table.specs.Inner.{carried_row}
use Rattle.table.proofs.Comparing.{mirror-turned, mirror-clear, agrees-mirrors}
use Rattle.table.proofs.shaped.Table.mirrored.Goals as goal
use Rattle.table.proofs.shaped.Table.mirrored.Goals.{After-rolled_limbs-turned}

-- row m-d in limbs, turned
mirror : (c : After-rolled_limbs-turned) → let a = c.args in
    c.rolled_limbs-turned.result ≡ limbs_of (turned a.self.now.width a.d (carried_row a.self.now.width a.self.now.bytes.now (a.self.now.width - a.d)))
mirror c =
    let a = c.args in
    mirror-turned a.self.now.shaped a.d c.requires.0 c.slice_limbs-other.result (c.slice_limbs-other.ensures ∙ ap limbs_of c.row.ensures) c.rolled_limbs-turned.ensures

pub agrees-requires : goal.agrees-requires
agrees-requires c =
    let s = c.args.self.now.shaped in (
      s.greatest,
      rw c.row-2.ensures (s.is_table.rows _ c.requires.1),
      mirror-clear s c.args.d c.requires.0 c.requires.1 (mirror (goal.at.agrees-requires c).After-rolled_limbs-turned),
    )

pub returns : goal.returns
returns c =
    let a = c.args in
    c.agrees.ensures
    ∙ ap (λ x. every a.self.now.width (λ i. eqb (limb_coord c.rolled_limbs-turned.result i) (coord x i))) c.row-2.ensures
    ∙ agrees-mirrors a.self.now.shaped a.d c.requires.0 c.requires.1 (mirror (goal.at.returns c).After-rolled_limbs-turned)
