-- `runner::lists::Runnable::fill_result` meets its contract. The invariant: the first b bytes are stored.
use native.Mathlib.Omega.{arith}
use Rattle.gf2.specs.Coordinates.{pack}
use Rattle.gf2.specs.Operands.{from_coords}
use Rattle.gf2.proofs.Loops.{filled_none, filled_more, filled-all}
use Rattle.runner.proofs.lists.Runnable.fill_result.Goals as goal

pub loop-b-init : goal.loop-b-init
loop-b-init c = filled_none _ _ _

pub output_byte-requires : goal.output_byte-requires
output_byte-requires c =
    (c.requires.0, omega (arith, c.requires.1, c.loop-b.auto.res))

pub bounds-res-b : goal.bounds-res-b
bounds-res-b c = omega (arith, c.loop-b.auto.res)

pub loop-b-preserved : goal.loop-b-preserved
loop-b-preserved c = filled_more c.loop-b.invariant (omega (arith, c.requires.1, c.loop-b.auto.res)) (omega (arith, c.requires.1)) c.output_byte.ensures

pub returns : goal.returns
unfolding from_coords pack
returns c = filled-all c.loop-b.invariant (omega (arith, c.requires.1, c.loop-b.auto.res)) (omega (arith, c.requires.1))
