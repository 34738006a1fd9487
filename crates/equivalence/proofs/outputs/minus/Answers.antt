-- `equivalence::outputs::minus` meets its contract.
use mathlib.Core.Path.{sym}
use native.Mathlib.Omega.{arith}
use Rattle.gf2.proofs.Operands.{minus-below, minus-round}
use Rattle.equivalence.proofs.outputs.minus.Goals as goal

pub returns-then-k-i : goal.returns-then-k-i
returns-then-k-i c = (sym (minus-below _ _ _ c.if-k-i.true c.requires.1), omega arith)

pub returns-else-k-i : goal.returns-else-k-i
returns-else-k-i c = (sym (minus-round _ _ _ (omega arith) c.requires.2), omega arith)
