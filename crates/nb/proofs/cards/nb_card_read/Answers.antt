-- `nb::cards::nb_card_read` meets its contract.
use mathlib.Core.Path.{sym, subst}
use Rattle.nb.specs.Packing.{PacksValue}
use Rattle.nb.proofs.Bounds.{read-packs}
use Rattle.nb.proofs.cards.nb_card_read.Goals as goal

pub value-requires : goal.value-requires
value-requires c = let a = c.args in subst PacksValue (sym c.read.ensures.answer) (read-packs a.card.now a.table.now (λ b. (c.shared_slice_known-1.given b).fits))
