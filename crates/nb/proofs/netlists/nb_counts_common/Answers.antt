-- `nb::netlists::nb_counts_common` meets its contract.
use mathlib.Core.Path.{sym, subst}
use Rattle.nb.specs.Packing.{PacksCounts}
use Rattle.nb.proofs.Bounds.{common-packs}
use Rattle.nb.proofs.netlists.nb_counts_common.Goals as goal

pub counts-requires : goal.counts-requires
counts-requires c = let a = c.args in subst PacksCounts (sym c.gate_counts.ensures) (common-packs a.width a.table.now)
