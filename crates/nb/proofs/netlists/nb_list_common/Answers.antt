-- `nb::netlists::nb_list_common` meets its contract.
use mathlib.Core.Path.{sym, subst}
use Rattle.nb.specs.Packing.{PacksCounts}
use Rattle.nb.proofs.Bounds.{common-list-packs}
use Rattle.nb.proofs.netlists.nb_list_common.Goals as goal

pub counts-requires : goal.counts-requires
counts-requires c = let a = c.args in subst PacksCounts (sym c.list.ensures.0) (common-list-packs a.width a.table.now a.out.now)
