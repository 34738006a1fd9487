-- `limbs::slices::eight` meets its contract.
use mathlib.Core.Path.{◌∙◌}
use native.Mathlib.Omega.{arith}
use borrow.Author.Rules.{rules}
use Rattle.limbs.proofs.LimbCoords.{joined_bytes}
use Rattle.limbs.proofs.slices.eight.Goals as goal

pub returns : goal.returns
returns c = c.from_le_bytes.ensures ∙ omega arith ∙ joined_bytes c.args.s.now c.args.b (λ k. search rules)
