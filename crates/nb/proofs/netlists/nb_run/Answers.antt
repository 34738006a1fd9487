-- `nb::netlists::nb_run` meets its contract.
use mathlib.Core.Path.{refl}
use Rattle.nb.specs.Packing.{is_small}
use Rattle.nb.proofs.PackLaws.{packs-causes}
use Rattle.nb.proofs.netlists.nb_run.Goals as goal

pub verdict-requires : goal.verdict-requires
verdict-requires c = packs-causes _ c.run_bytes.ensures.0 (unfold is_small in refl)
