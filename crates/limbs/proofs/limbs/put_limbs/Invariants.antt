-- `limbs::limbs::put_limbs` meets its contract.
use mathlib.Core.Path.{◌≡◌}
use Prim.Native.Nat.{◌*◌, ◌/◌, ◌≤◌}
use lib.ListN.{length}
use Rattle.limbs.specs.Limbs.{carried_limbs, Stored}
use Rattle.limbs.proofs.limbs.put_limbs.Given as goal

abbrev pub invariant-loop-w : goal.invariant-loop-w
invariant-loop-w l = (l.w ≤ carried_limbs) × (length l.out ≡ length l.initial.out) × Stored l.x (l.w * 8) (length l.initial.out / 8 * 8) l.out
