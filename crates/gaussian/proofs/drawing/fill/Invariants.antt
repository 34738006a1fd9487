-- `gaussian::drawing::fill` meets its contract.
use mathlib.Core.Path.{◌≡◌}
use Prim.Native.Nat.{◌*◌}
use lib.ListN.{length}
use Rattle.gf2.specs.Operands.{bytes_for}
use Rattle.gaussian.proofs.TermLaws.{partial}
use Rattle.gaussian.proofs.drawing.fill.Given as goal

abbrev pub invariant-loop-w : goal.invariant-loop-w
invariant-loop-w l = (l.table ≡ partial l.m l.t l.w) × (length l.table ≡ l.m * bytes_for l.m)
