-- `gaussian::drawing::add_images` meets its contract.
use Rattle.gaussian.proofs.TermLaws.{TermLoop}
use Rattle.gaussian.proofs.drawing.add_images.Given as goal

abbrev pub invariant-loop-d : goal.invariant-loop-d
invariant-loop-d l = TermLoop l.logs.modulus.m l.logs.modulus.t l.logs.modulus.p l.w l.initial.table l.table l.y l.d
