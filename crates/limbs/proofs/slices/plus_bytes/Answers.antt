-- `limbs::slices::plus_bytes` meets its contract.
use mathlib.Core.Path.{sym, ◌∙◌}
use native.Mathlib.Omega.{arith}
use Rattle.gf2.specs.Coordinates.{coord}
use Rattle.gf2.proofs.Operands.{below_out}
use Rattle.limbs.proofs.LimbLoops.{limbs-fit}
use Rattle.limbs.proofs.Reach.{reach-most, ends-true, ends-false}
use Rattle.limbs.proofs.SliceLaws.{plus_none, plus-limb, plus-reach, plus-few}
use borrow.Author.Rules.{rules}
use Rattle.limbs.proofs.slices.plus_bytes.Goals as goal

pub returns-then-s-lt-BYTES : goal.returns-then-s-lt-BYTES
returns-then-s-lt-BYTES c = let a = c.args in plus-few a.s.now a.m (search rules) (limbs-fit a.x (λ k. search rules)) c.if-s-lt-BYTES.true

pub loop-w-init : goal.loop-w-init
loop-w-init c = let a = c.args in
    (omega arith, plus_none _ (search rules) (limbs-fit a.x (λ k. search rules)) (λ i. below_out _ (coord a.s.now) i (omega arith)))

pub returns-then-ends_at : goal.returns-then-ends_at
returns-then-ends_at c =
    let a = c.args in
    plus-reach a.s.now _ a.m c.loop-w.invariant.1 (ends-true _ _ (sym c.ends_at.ensures ∙ c.if-ends_at.true)) (omega arith)

pub loop-w-preserved : goal.loop-w-preserved
loop-w-preserved c =
    let a = c.args in (
      omega (arith, ends-false _ _ c.loop-w.invariant.0 (omega arith) (sym c.ends_at.ensures ∙ c.if-ends_at.false)),
      plus-limb a.s.now _ c.loop-w.invariant.1 (limbs-fit a.x (λ k. search rules)) (omega arith) c.eight.ensures,
    )

pub returns : goal.returns
returns c =
    let a = c.args in
    plus-reach a.s.now c.loop-w.w a.m c.loop-w.invariant.1 (omega (arith, reach-most a.m)) (omega arith)
