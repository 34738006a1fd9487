-- `limbs::bytes::carried` meets its contract.
use Rattle.limbs.proofs.LimbCoords.{bytes-from}
use Rattle.limbs.proofs.bytes.carried.Goals as goal

pub returns : goal.returns
returns c = bytes-from _ c.to_bytes.ensures c.slice_limbs.ensures
