-- `gaussian::drawing::flip` meets its contract.
use mathlib.Core.Path.{refl, ap}
use Prim.Native.Nat.{◌+◌, ◌*◌, ◌/◌}
use Rattle.gaussian.proofs.AddLaws.{flip-adds}
use Rattle.gaussian.proofs.drawing.flip.Goals as goal

pub returns : goal.returns
returns c =
    flip-adds c.requires.0 c.requires.1 (ap (λ w. c.args.d * w + c.args.s / 8) c.bytes_for.ensures) refl
