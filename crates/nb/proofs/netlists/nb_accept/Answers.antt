-- `nb::netlists::nb_accept` meets its contract.
use mathlib.Core.Path.{sym, subst}
use Rattle.nb.specs.Packing.{PacksCounts}
use Rattle.nb.proofs.Bounds.{accept-packs}
use Rattle.nb.proofs.netlists.nb_accept.Goals as goal

pub counts-requires : goal.counts-requires
counts-requires c = let a = c.args in subst PacksCounts (sym c.accept.ensures) (accept-packs a.width a.table.now a.list.now)
