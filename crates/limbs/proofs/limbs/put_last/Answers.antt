-- `limbs::limbs::put_last` meets its contract.
use mathlib.Core.Path.{refl}
use native.Mathlib.Omega.{arith}
use Rattle.limbs.proofs.LimbLoops.{limbs-fit, pair-limb}
use Rattle.limbs.proofs.LimbStores.{stored-by, stored_last}
use borrow.Author.Rules.{rules}
use Rattle.limbs.proofs.limbs.put_last.Goals as goal

pub returns-then-n-ge-BYTES : goal.returns-then-n-ge-BYTES
returns-then-n-ge-BYTES c = stored-by c.requires.1 _ _ (λ i p q. (p, omega arith))

pub returns-then-s-ne0 : goal.returns-then-s-ne0
returns-then-s-ne0 c = stored_last c.requires.1 c.put_whole.ensures refl c.requires.0 (pair-limb _ _ _ (limbs-fit c.args.x (λ k. search rules) _) (omega arith))

pub returns-else-s-ne0 : goal.returns-else-s-ne0
returns-else-s-ne0 c = stored-by c.requires.1 _ _ (λ i p q. (p, omega arith))
