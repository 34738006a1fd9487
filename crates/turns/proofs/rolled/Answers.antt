-- `turns::rolled` meets its contract.
use mathlib.Core.Path.{ap, ◌∙◌}
use Rattle.gf2.specs.Coordinates.{pack}
use Rattle.gf2.specs.Operands.{carried_bytes}
use Rattle.limbs.proofs.LimbCoords.{bytes-from, limbs-same}
use Rattle.turns.specs.Moves.{rolled}
use borrow.Author.Rules.{rules}
use Rattle.turns.proofs.rolled.Goals as goal

pub returns : goal.returns
returns c = let a = c.args in bytes-from _ c.to_bytes.ensures c.rolled_limbs.ensures
    ∙ ap (λ f. pack carried_bytes (rolled a.m a.k f)) (limbs-same a.x c.to_limbs.ensures (search rules))
