-- `nb::tables::nb_product_reduced` meets its contract.
use mathlib.Core.Path.{sym, subst}
use Rattle.nb.specs.Packing.{PacksVerdict}
use Rattle.nb.proofs.PackLaws.{small-reduced}
use Rattle.nb.proofs.tables.nb_product_reduced.Goals as goal

pub verdict-requires : goal.verdict-requires
verdict-requires c =
    let a = c.args in
    subst PacksVerdict (sym c.multiply_into.ensures.0) (small-reduced a.width a.table.now a.a.now a.b.now a.res.now)
