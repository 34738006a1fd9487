-- `limbs::slices::plus_each` meets its contract.
use native.Mathlib.Omega.{arith}
use Rattle.gf2.specs.Coordinates.{coord}
use Rattle.gf2.proofs.Coordinates.{coord-past}
use Rattle.gf2.proofs.Operands.{below_out}
use Rattle.limbs.proofs.LimbLoops.{limbs-fit}
use Rattle.limbs.proofs.SliceLaws.{plus_none, plus-byte, plus-bytes}
use borrow.Author.Rules.{rules}
use Rattle.limbs.proofs.slices.plus_each.Goals as goal

pub loop-b-init : goal.loop-b-init
loop-b-init c = let a = c.args in plus_none _ (search rules) (limbs-fit a.x (λ k. search rules)) (λ i. below_out _ (coord a.s.now) i (omega arith))

pub returns-then-b-ge-BYTES : goal.returns-then-b-ge-BYTES
returns-then-b-ge-BYTES c = plus-bytes c.args.s.now _ c.loop-b.invariant (λ i h k. absurd (omega arith))

pub loop-b-preserved : goal.loop-b-preserved
loop-b-preserved c = plus-byte c.args.s.now _ c.loop-b.invariant (omega arith) (search rules) c.from.ensures

pub returns : goal.returns
returns c = let s = c.args.s.now in plus-bytes s _ c.loop-b.invariant (λ i h k. coord-past s i (omega arith))
