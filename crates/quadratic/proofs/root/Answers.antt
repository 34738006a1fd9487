-- `quadratic::root` meets its contract.
use mathlib.Core.Path.{ap, ◌∙◌}
use Prim.Native.Nat.{suc, ◌+◌}
use Rattle.gf2.specs.Sums.{sum}
use Rattle.gf2.specs.Operands.{carried_bytes, from_coords}
use Rattle.limbs.proofs.LimbCoords.{limbs-same, bytes-from}
use Rattle.quadratic.proofs.QuadraticLimbs.{root-from}
use borrow.Author.Rules.{rules}
use Rattle.quadratic.proofs.root.Goals as goal

pub returns : goal.returns
unfolding from_coords
returns c =
    bytes-from _ c.to_bytes.ensures c.root_limbs.ensures
    ∙ ap (λ f. from_coords carried_bytes c.args.m (λ i. f 0 + sum (suc i) f)) (limbs-same c.args.c c.to_limbs.ensures (search rules))
    ∙ root-from carried_bytes c.args.m _
