-- `table::first::is_square` meets its contract.
use mathlib.Core.Path.{◌≡◌, sym, ◌∙◌}
use Prim.Native.Nat.{ℕ, ◌+◌, ◌*◌, ◌/◌, ◌%◌, ◌^◌, ◌<◌}
use native.Mathlib.Omega.{arith}
use Rattle.gf2.specs.Coordinates.{coord}
use Rattle.gf2.specs.Operands.{minus}
use Rattle.limbs.proofs.Reach.{ends-narrow}
use Rattle.table.proofs.Comparing.{agree-start, agree-all, agree-more, agree-not}
use Rattle.table.proofs.Squares.{carry-first, carry-next, square-bits}
use Rattle.table.proofs.first.is_square.Goals as goal
use Rattle.table.proofs.first.is_square.Goals.{After-raise_pair}

-- a limb of the square
bits : (c : After-raise_pair) → let l = c.loop-w in let a = c.args in
    (j : ℕ) → j < 64 → l.w * 64 + j < a.m → c.raise_pair.result / 2 ^ j % 2 ≡ coord a.s.now (minus a.m (l.w * 64 + j) 1)
bits c =
    let l = c.loop-w in
    square-bits _ _ l.w (omega arith) c.carried_limb-limb.ensures l.previous l.invariant.0 c.raise_pair.ensures

pub loop-w-init : goal.loop-w-init
loop-w-init c = (carry-first _ c.args.s.now c.requires.0 c.last_high-previous.ensures, agree-start _ _ _)

pub returns-then-ends_at : goal.returns-then-ends_at
returns-then-ends_at c =
    let narrow = ends-narrow _ _ (sym c.ends_at.ensures ∙ c.if-ends_at.true) in
    agree-all c.loop-w.invariant.1 (omega arith)

pub returns-then-low_limb-ne0 : goal.returns-then-low_limb-ne0
returns-then-low_limb-ne0 c =
    agree-not c.loop-w.invariant.1 c.raise_pair.result (bits (goal.at.returns-then-low_limb-ne0 c).After-raise_pair) (rw c.low_limb.ensures at c.low_limb.type_inv) (λ e. c.if-low_limb-ne0.true (c.low_limb.ensures ∙ e))

pub loop-w-preserved : goal.loop-w-preserved
loop-w-preserved c =
    let l = c.loop-w in (
      carry-next _ _ l.w (omega arith) c.carried_limb-limb.ensures,
      agree-more l.invariant.1 c.raise_pair.result (bits (goal.at.loop-w-preserved c).After-raise_pair) (sym c.low_limb.ensures ∙ c.if-low_limb-ne0.false),
    )

pub returns : goal.returns
returns c = agree-all c.loop-w.invariant.1 (omega (arith, c.requires.1))
