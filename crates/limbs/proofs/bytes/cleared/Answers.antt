-- `limbs::bytes::cleared` meets its contract.
use mathlib.Core.Path.{ap, ◌∙◌}
use Rattle.gf2.specs.Coordinates.{pack}
use Rattle.gf2.specs.Operands.{carried_bytes, below, from_coords}
use Rattle.limbs.proofs.LimbCoords.{limbs-same, bytes-from}
use borrow.Author.Rules.{rules}
use Rattle.limbs.proofs.bytes.cleared.Goals as goal

pub returns : goal.returns
unfolding from_coords
returns c =
    let a = c.args in
    bytes-from _ c.to_bytes.ensures c.low_limbs.ensures
    ∙ ap (λ f. pack carried_bytes (below a.m f)) (limbs-same a.x c.to_limbs.ensures (search rules))
