-- `scatter::slots::next_sum` meets its contract.
use mathlib.Core.Path.{sym, ◌∙◌}
use native.Mathlib.Omega.{arith}
use borrow.Author.Rules.{rules}
use Rattle.gf2.proofs.Loops.{filled_none, filled_more}
use Rattle.scatter.specs.Cells.{twice_limbs}
use Rattle.scatter.proofs.MoveLaws.{before-first, before-next, next-limb}
use Rattle.scatter.proofs.SpreadLaws.{twice_most, twice-true, twice-false}
use Rattle.limbs.proofs.Reach.{kept-limbs}
use Rattle.scatter.proofs.slots.next_sum.Goals as goal

pub loop-w-init : goal.loop-w-init
loop-w-init c = (before-first c.args.x, filled_none _ _ _)

pub returns-then-ends_twice : goal.returns-then-ends_twice
returns-then-ends_twice c =
    let l = c.loop-w in
    let a = c.args in
    let e = twice-true a.m l.w (sym c.ends_twice.ensures ∙ c.if-ends_twice.true) in
    kept-limbs twice_limbs _ _ l.invariant.1 (omega (arith, e)) (twice_most a.m)

pub loop-w-preserved : goal.loop-w-preserved
loop-w-preserved c =
    let l = c.loop-w in
    let a = c.args in (
      before-next a.x l.w,
      filled_more l.invariant.1 (twice-false a.m l.w l.invariant.1.within (omega arith) (sym c.ends_twice.ensures ∙ c.if-ends_twice.false))
          (omega (arith, twice_most a.m))
          (next-limb a.x a.g.now a.r l.w l.invariant.0 c.raise_pair.ensures (search rules)),
    )

pub returns : goal.returns
returns c = let l = c.loop-w in
    let a = c.args in
    kept-limbs twice_limbs _ _ l.invariant.1 (omega (arith, twice_most a.m)) (twice_most a.m)
