-- `nb::tables::nb_product` meets its contract.
use mathlib.Core.Path.{refl}
use Rattle.nb.specs.Packing.{is_small}
use Rattle.nb.proofs.PackLaws.{packs-causes}
use Rattle.nb.proofs.tables.nb_product.Goals as goal

pub verdict-requires : goal.verdict-requires
verdict-requires c = packs-causes _ c.multiply_into.ensures.0 (unfold is_small in refl)
