-- `nb::operands::nb_sum` meets its contract.
use mathlib.Core.Path.{refl}
use Rattle.nb.specs.Packing.{is_small}
use Rattle.nb.proofs.PackLaws.{packs-causes}
use Rattle.nb.proofs.operands.nb_sum.Goals as goal

pub verdict-requires : goal.verdict-requires
verdict-requires c = packs-causes _ c.sum_into.ensures.0 (unfold is_small in refl)
