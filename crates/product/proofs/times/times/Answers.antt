-- `product::times::times` meets its contract.
use mathlib.Core.Path.{ap, ◌∙◌}
use Prim.Native.Nat.{ℕ, ◌*◌}
use lib.ListN.{length, length-replicate}
use Rattle.scatter.specs.Cells.{slots, twice_limbs}
use Rattle.product.proofs.SoundOperands.{made-sound}
use Rattle.product.proofs.KernelLaws.{limbs-clear}
use Rattle.product.proofs.TimesLaws.{serves-shaped, rows_inside, rows-by, times-made}
use Rattle.product.proofs.times.times.Goals as goal

pub add_rows-requires : goal.add_rows-requires
add_rows-requires c =
    let a = c.args in
    let shaped = serves-shaped a.method a.width a.table.now c.requires.0 in (
      shaped,
      limbs-clear c.requires.1 c.to_limbs-x.ensures,
      limbs-clear c.requires.2 c.to_limbs-y.ensures,
      rw (c.first_row.ensures, c.row_count.ensures) (rows_inside a.method a.width shaped.least),
      ap length c.requires.3 ∙ length-replicate {A = ℕ} (slots * twice_limbs) 0,
    )

pub gathered-requires : goal.gathered-requires
gathered-requires c =
    let a = c.args in
    let shaped = serves-shaped a.method a.width a.table.now c.requires.0 in
    let rows = rows-by a.method a.width a.table.now _ _ (slots * twice_limbs) c.first_row.ensures c.row_count.ensures c.requires.3 c.add_rows.ensures in (
      (shaped.least, shaped.greatest),
      rows.size ∙ length-replicate {A = ℕ} (slots * twice_limbs) 0,
    )

pub plus_diagonal-requires : goal.plus_diagonal-requires
plus_diagonal-requires c =
    made-sound c.requires.1 _ c.gathered.ensures

pub returns : goal.returns
returns c =
    let a = c.args in
    times-made a.table.now c.requires.1 c.requires.2 c.to_limbs-x.ensures c.to_limbs-y.ensures (slots * twice_limbs) a.method c.requires.0
    (rows-by a.method a.width a.table.now _ _ (slots * twice_limbs) c.first_row.ensures c.row_count.ensures c.requires.3 c.add_rows.ensures)
    c.gathered.ensures c.plus_diagonal.ensures
