-- `nb::operands::nb_trace` meets its contract.
use mathlib.Core.Path.{sym, subst}
use Rattle.nb.specs.Packing.{PacksValue}
use Rattle.nb.proofs.Bounds.{trace-packs}
use Rattle.nb.proofs.operands.nb_trace.Goals as goal

pub value-requires : goal.value-requires
value-requires c = let a = c.args in subst PacksValue (sym c.trace_of.ensures) (trace-packs a.width a.a.now)
