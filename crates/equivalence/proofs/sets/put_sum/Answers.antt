-- `equivalence::sets::put_sum` meets its contract. The invariant: the first w limbs are summed.
use mathlib.Core.Path.{◌≡◌}
use native.Mathlib.Omega.{arith}
use borrow.Author.Rules.{rules}
use Rattle.equivalence.specs.Inner.{set_limbs}
use Rattle.equivalence.proofs.SquareLaws.{HasSets, sum-none, sum_more}
use Rattle.equivalence.proofs.sets.put_sum.Goals as goal

pub loop-w-init : goal.loop-w-init
loop-w-init c = sum-none

pub loop-w-preserved : goal.loop-w-preserved
loop-w-preserved c =
    let p = c.requires in
    let w = c.loop-w in
    let room : HasSets w.sets = search rules in
    sum_more room p.0 p.1 p.2 (omega arith) w.invariant

pub returns : goal.returns
returns c =
    let w = c.loop-w in
    let e : w.w ≡ set_limbs = omega arith in
    rw e at w.invariant
