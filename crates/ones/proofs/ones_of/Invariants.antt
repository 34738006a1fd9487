-- `ones::ones_of` meets its contract.
use Rattle.std.proofs.Common.{◌≡◌, ◌*◌, ◌%◌, ◌^◌}
use Rattle.gf2.specs.Sums.{sum}
use Rattle.gf2.specs.Coordinates.{coord}
use Rattle.ones.proofs.ones_of.Given as goal

abbrev pub invariant-loop-w : goal.invariant-loop-w
invariant-loop-w l = l.total ≡ sum (l.w * 64) (coord l.bytes) % 2 ^ 64
