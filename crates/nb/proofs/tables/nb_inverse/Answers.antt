-- `nb::tables::nb_inverse` meets its contract.
use mathlib.Core.Path.{sym, subst}
use Rattle.nb.specs.Packing.{PacksValue}
use Rattle.nb.proofs.Bounds.{inverse-packs}
use Rattle.nb.proofs.tables.nb_inverse.Goals as goal

pub value-requires : goal.value-requires
value-requires c = let a = c.args in subst PacksValue (sym c.inverse_into.ensures.0) (inverse-packs a.width a.table.now a.a.now a.res.now)
