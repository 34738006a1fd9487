-- `limbs::limbs::to_bytes` meets its contract.
use native.Mathlib.Omega.{arith}
use Rattle.gf2.specs.Operands.{carried_bytes}
use Rattle.limbs.proofs.LimbStores.{stored-by, stored-pack}
use Rattle.limbs.proofs.limbs.to_bytes.Goals as goal

pub returns : goal.returns
returns c = let put = c.put_limbs.ensures in stored-pack (stored-by put.1 carried_bytes carried_bytes (λ i h k. (h, h))) (omega arith) put.0
