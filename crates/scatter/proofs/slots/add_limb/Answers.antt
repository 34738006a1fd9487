-- `scatter::slots::add_limb` meets its contract.
use mathlib.Core.Path.{◌∙◌}
use native.Mathlib.Omega.{arith}
use lib.Count.{trailing_le}
use Rattle.gf2.proofs.TrailingZeros.{lowest-next, lowest-less}
use Rattle.scatter.proofs.OnesLaws.{ones_none, ones-more, ones-all}
use Rattle.scatter.proofs.slots.add_limb.Goals as goal

pub loop-rest-init : goal.loop-rest-init
loop-rest-init c = (c.ranges.limb.fits, ones_none _ _ _)

pub overflow_cast-zeros : goal.overflow_cast-zeros
overflow_cast-zeros c = omega (arith, trailing_le 64 c.loop-rest.rest)

pub add_at-requires : goal.add_at-requires
add_at-requires c = let l = c.loop-rest in
    (l.invariant.1.size ∙ c.requires.0, lowest-next 64 l.rest l.invariant.0 c.loop-rest-test.true, c.requires.1)

pub loop-rest-smaller : goal.loop-rest-smaller
loop-rest-smaller c = let l = c.loop-rest in lowest-less 64 l.rest l.invariant.0 c.loop-rest-test.true

pub loop-rest-preserved : goal.loop-rest-preserved
loop-rest-preserved c = let l = c.loop-rest in
    (omega (arith, l.invariant.0, lowest-less 64 l.rest l.invariant.0 c.loop-rest-test.true), ones-more _ _ l.rest l.invariant.0 c.loop-rest-test.true l.invariant.1 c.add_at.ensures)

pub shape_of-g : goal.shape_of-g
shape_of-g c = c.loop-rest.invariant.1.size

pub returns : goal.returns
returns c = ones-all _ _ c.loop-rest-test.false c.loop-rest.invariant.1
