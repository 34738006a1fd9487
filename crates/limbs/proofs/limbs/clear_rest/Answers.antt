-- `limbs::limbs::clear_rest` meets its contract.
use native.Mathlib.Omega.{arith}
use borrow.Author.Rules.{rules}
use Rattle.gf2.specs.Operands.{carried_bytes}
use Rattle.limbs.proofs.LimbStores.{cleared-fill}
use Rattle.limbs.proofs.limbs.clear_rest.Goals as goal

pub returns-then-out-gt-BYTES : goal.returns-then-out-gt-BYTES
returns-then-out-gt-BYTES c = cleared-fill carried_bytes c.args.out.now c.fill.new.self _ (omega arith) (c.fill.ensures.after (λ y e. e)) (search rules)
