-- `gaussian::drawing::add_images` meets its contract.
use native.Mathlib.Omega.{arith}
use Rattle.gaussian.proofs.TermLaws.{term-start, term-more, term-done}
use Rattle.gaussian.proofs.drawing.add_images.Goals as goal

pub loop-d-init : goal.loop-d-init
loop-d-init c = term-start _ c.requires.1

pub loop-d-preserved : goal.loop-d-preserved
loop-d-preserved c =
    term-more c.loop-d.invariant c.plus_one.ensures c.times-y.ensures c.add_image.ensures (omega arith)

pub returns : goal.returns
returns c = term-done c.loop-d.invariant (omega arith)
