-- `quadratic::trace` meets its contract.
use mathlib.Core.Path.{◌≡◌, ap, ◌∙◌}
use Prim.Native.Nat.{◌+◌, ◌*◌, ◌/◌, ◌%◌}
use native.Mathlib.Omega.{arith}
use lib.ListN.{length}
use Rattle.gf2.specs.Coordinates.{coord}
use Rattle.gf2.proofs.Sums.{sum-clear}
use Rattle.gf2.proofs.Coordinates.{coord-past}
use Rattle.quadratic.proofs.QuadraticLimbs.{bits, folded_to, folded-none, folded_more, folded-trace}
use Rattle.quadratic.proofs.trace.Goals as goal

pub loop-w-init : goal.loop-w-init
loop-w-init c = folded-none (coord c.args.s.now)

pub loop-w-preserved : goal.loop-w-preserved
loop-w-preserved c = let l = c.loop-w in folded_more (coord c.args.s.now) l.w l.invariant c.limb_of-total.ensures

-- all coordinates stand in the whole limbs and the one after them
pub returns : goal.returns
returns c =
    let s = c.args.s.now in
    let all : c.loop-w.w ≡ length s / 8 = omega arith in
    c.parity.ensures ∙ ap (λ t. bits t 64 % 2) (folded_more (coord s) (length s / 8) (c.loop-w.invariant ∙ ap (folded_to (coord s)) all) c.limb_of.ensures)
    ∙ folded-trace (length s / 8 + 1) (coord s)
    ∙ ap (λ n. n % 2) (sum-clear (8 * length s) (64 * (length s / 8 + 1)) (coord s) (omega arith) (coord-past s))
