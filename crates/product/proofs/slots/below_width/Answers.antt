-- `product::slots::below_width` meets its contract.
use mathlib.Core.Path.{ap, ◌∙◌}
use Rattle.gf2.specs.Coordinates.{pack}
use Rattle.gf2.specs.Operands.{carried_bytes, from_coords}
use Rattle.limbs.specs.Limbs.{limb_coord}
use Rattle.limbs.proofs.LimbCoords.{bytes-limbs}
use Rattle.product.specs.Inner.{operand_of}
use Rattle.product.proofs.slots.below_width.Goals as goal

pub returns : goal.returns
unfolding from_coords
returns c =
    ap (operand_of c.args.width) (c.to_bytes.ensures ∙ ap (λ z. pack carried_bytes (limb_coord z)) c.low_limbs.ensures ∙ bytes-limbs _)
