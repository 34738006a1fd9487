-- `nb::drawing::nb_type` meets its contract.
use mathlib.Core.Path.{sym, subst}
use Rattle.nb.specs.Packing.{PacksValue}
use Rattle.nb.proofs.Bounds.{type-answer-packs}
use Rattle.nb.proofs.drawing.nb_type.Goals as goal

pub value-requires : goal.value-requires
value-requires c = let a = c.args in subst PacksValue (sym c.type_of.ensures) (type-answer-packs a.width)
