-- `nb::packing::refused` meets its contract.
use mathlib.Core.Path.{ap}
use native.Mathlib.Omega.{arith}
use Rattle.nb.specs.Packing.{packed_fault}
use Rattle.nb.proofs.PackLaws.{small_of}
use Rattle.nb.proofs.packing.refused.Goals as goal

pub pack-requires : goal.pack-requires
pack-requires c =
    let room = small_of c.args.fault c.requires in
    let e = c.number-n.ensures in
    omega (arith, ap (λ n. n.0) e, ap (λ n. n.1) e, ap (λ n. n.2) e, room.number, room.first, room.second)

pub returns : goal.returns
unfolding packed_fault
returns c = rw (c.pack.ensures, c.number-n.ensures)
