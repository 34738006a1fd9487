-- `nb::drawing::nb_draw` meets its contract.
use mathlib.Core.Path.{sym, subst}
use Rattle.nb.specs.Packing.{PacksValue}
use Rattle.nb.proofs.Bounds.{draw-packs}
use Rattle.nb.proofs.drawing.nb_draw.Goals as goal

pub value-requires : goal.value-requires
value-requires c = let a = c.args in subst PacksValue (sym c.draw.ensures.answer) (draw-packs a.width _)
