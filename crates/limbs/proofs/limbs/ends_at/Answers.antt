-- `limbs::limbs::ends_at` meets its contract.
use borrow.Author.Rules.{rules}
use Rattle.limbs.specs.Limbs.{ends_at}
use Rattle.limbs.proofs.limbs.ends_at.Goals as goal

pub returns-then-w-eq-FEW : goal.returns-then-w-eq-FEW
unfolding ends_at
returns-then-w-eq-FEW c = search rules

pub returns-else-w-eq-FEW : goal.returns-else-w-eq-FEW
unfolding ends_at
returns-else-w-eq-FEW c = search rules
