-- `nb::tables::nb_check` meets its contract.
use mathlib.Core.Path.{sym, subst}
use Rattle.nb.specs.Packing.{PacksVerdict}
use Rattle.nb.proofs.PackLaws.{small-check}
use Rattle.nb.proofs.tables.nb_check.Goals as goal

pub verdict-requires : goal.verdict-requires
verdict-requires c = let a = c.args in subst PacksVerdict (sym c.check.ensures) (small-check a.width a.table.now)
