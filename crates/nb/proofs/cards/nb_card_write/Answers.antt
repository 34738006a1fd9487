-- `nb::cards::nb_card_write` meets its contract.
use mathlib.Core.Path.{sym, subst}
use Rattle.nb.specs.Packing.{PacksValue}
use Rattle.nb.proofs.Bounds.{write-packs}
use Rattle.nb.proofs.cards.nb_card_write.Goals as goal

pub value-requires : goal.value-requires
value-requires c = let a = c.args in subst PacksValue (sym c.write.ensures.answer) (write-packs a.width a.table.now a.out.now)
