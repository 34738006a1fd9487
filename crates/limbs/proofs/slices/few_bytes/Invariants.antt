-- `limbs::slices::few_bytes` meets its contract.
use mathlib.Core.Path.{◌≡◌}
use Prim.Native.Nat.{◌+◌, ◌*◌, ◌≤◌}
use lib.ListN.{length}
use Rattle.gf2.specs.Coordinates.{coord, value}
use Rattle.limbs.proofs.slices.few_bytes.Given as goal

abbrev pub invariant-loop-b : goal.invariant-loop-b
invariant-loop-b l = (l.b ≤ length l.s) × (l.limb ≡ value 64 (λ j. coord l.s (l.b * 8 + j)))
