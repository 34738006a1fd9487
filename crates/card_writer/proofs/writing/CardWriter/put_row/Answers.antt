-- `card_writer::writing::CardWriter::put_row` meets its contract.
use mathlib.Core.Path.{◌≡◌, ap, ◌∙◌}
use mathlib.Core.List.{◌++◌}
use native.Mathlib.Omega.{arith}
use Rattle.gf2.specs.Tables.{row}
use Rattle.limbs.specs.Limbs.{limbs_of}
use Rattle.card.specs.Numbers.{number}
use Rattle.card.specs.Rows.{steps, row_card}
use Rattle.card_writer.specs.Inner.{limb_ones}
use Rattle.card_writer.proofs.WriteSteps.{put_both, in-first, in-second, count_ones, count-few, row-parts}
use Rattle.card_writer.proofs.writing.CardWriter.put_row.Goals as goal
use Rattle.card_writer.proofs.writing.CardWriter.put_row.Goals.{After-ones_in-n}

parts : (c : After-ones_in-n) → row_card c.args.table.now.width (row c.args.table.now.width c.args.table.now.bytes.now c.args.d) ≡
    number c.ones_in-n.result ++ steps 0 (limb_ones c.slice_limbs-row.result)
parts c = row-parts c.args.table.now.shaped _ c.requires.0 (c.slice_limbs-row.ensures ∙ ap limbs_of c.row.ensures) c.ones_in-n.ensures

pub put_number-requires : goal.put_number-requires
put_number-requires c =
    (omega (arith, count-few c.slice_limbs-row.result c.ones_in-n.ensures), in-first _ _ (rw (parts (goal.at.put_number-requires c).After-ones_in-n) at c.requires.1))

pub put_places-requires : goal.put_places-requires
put_places-requires c =
    (count_ones _ c.ones_in-n.ensures, in-second c.put_number.ensures (rw (parts (goal.at.put_places-requires c).After-ones_in-n) at c.requires.1))

pub returns : goal.returns
returns c = rw (parts (goal.at.returns c).After-ones_in-n) (put_both c.put_number.ensures c.put_places.ensures)
