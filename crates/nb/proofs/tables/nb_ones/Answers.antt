-- `nb::tables::nb_ones` meets its contract.
use mathlib.Core.Path.{sym, subst}
use Rattle.nb.specs.Packing.{PacksValue}
use Rattle.nb.proofs.Bounds.{ones-packs}
use Rattle.nb.proofs.tables.nb_ones.Goals as goal

pub value-requires : goal.value-requires
value-requires c = let a = c.args in subst PacksValue (sym c.ones.ensures) (ones-packs a.width a.table.now)
