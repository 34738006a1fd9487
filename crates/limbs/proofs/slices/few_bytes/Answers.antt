-- `limbs::slices::few_bytes` meets its contract.
use mathlib.Core.Path.{◌≡◌, ap, ◌∙◌}
use Prim.Native.Nat.{◌+◌, ◌-◌, ◌*◌}
use native.Mathlib.Omega.{arith}
use Rattle.gf2.specs.Coordinates.{coord, value}
use Rattle.limbs.proofs.LimbCoords.{byte_more, limb-none}
use borrow.Author.Rules.{rules}
use Rattle.limbs.proofs.slices.few_bytes.Goals as goal

pub loop-b-init : goal.loop-b-init
loop-b-init c = (omega arith, limb-none c.args.s.now _ (omega arith))

pub loop-b-preserved : goal.loop-b-preserved
loop-b-preserved c = (omega arith, byte_more c.args.s.now (c.loop-b.b - 1) c.loop-b.b (omega arith) c.loop-b.invariant.1 c.from.ensures (search rules))

pub returns : goal.returns
returns c = let zero : c.loop-b.b ≡ 0 = omega arith in
    c.loop-b.invariant.1 ∙ ap (λ b. value 64 (λ j. coord c.args.s.now (b * 8 + j))) zero
