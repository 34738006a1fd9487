-- `limbs::limbs::store` meets its contract.
use native.Mathlib.Omega.{arith}
use Rattle.limbs.proofs.LimbStores.{stored-by, cleared-pack, part-pack}
use borrow.Author.Rules.{rules}
use Rattle.limbs.proofs.limbs.store.Goals as goal

pub put_last-requires : goal.put_last-requires
put_last-requires c = let w = c.put_limbs in
    (omega (arith, w.auto.out), stored-by w.ensures.1 _ _ (λ i p q. (p, omega (arith, w.auto.out))))

pub returns-then-out-lt8 : goal.returns-then-out-lt8
returns-then-out-lt8 c = part-pack _ c.put_part.ensures c.if-out-lt8.true

pub returns-else-out-lt8 : goal.returns-else-out-lt8
returns-else-out-lt8 c =
    let w = c.put_limbs.auto.out in
    let l = c.put_last.auto.out in
    cleared-pack (search rules) c.put_last.ensures c.clear_rest.ensures (omega arith) (omega arith) (omega arith)
