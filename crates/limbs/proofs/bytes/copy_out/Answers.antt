-- `limbs::bytes::copy_out` meets its contract.
use mathlib.Core.Path.{ap, ◌∙◌}
use lib.ListN.{length}
use Rattle.gf2.specs.Coordinates.{pack}
use Rattle.limbs.proofs.LimbCoords.{limbs-same}
use borrow.Author.Rules.{rules}
use Rattle.limbs.proofs.bytes.copy_out.Goals as goal

pub returns : goal.returns
returns c = let a = c.args in
    c.store.ensures ∙ ap (pack (length a.out.now)) (limbs-same a.x c.to_limbs.ensures (search rules))
