-- `limbs::bytes::xored` meets its contract.
use mathlib.Core.Path.{ap₂, ◌∙◌}
use Prim.Native.Nat.{◌+◌}
use Rattle.gf2.specs.Coordinates.{pack}
use Rattle.gf2.specs.Operands.{carried_bytes}
use Rattle.limbs.proofs.LimbCoords.{limbs-same, bytes-from}
use borrow.Author.Rules.{rules}
use Rattle.limbs.proofs.bytes.xored.Goals as goal

pub returns : goal.returns
returns c = bytes-from _ c.to_bytes.ensures c.xored_limbs.ensures ∙ ap₂ (λ f g. pack carried_bytes (λ i. f i + g i))
    (limbs-same c.args.x c.to_limbs.ensures (search rules)) (limbs-same c.args.y c.to_limbs-2.ensures (search rules))
