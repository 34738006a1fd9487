-- `runner::lists::GateList::is_gate` meets its contract.
use native.Mathlib.Omega.{arith}
use Rattle.runner.proofs.RunLaws.{gate-kind, gate-left, gate-right}
use Rattle.runner.proofs.lists.GateList.is_gate.Goals as goal

pub returns-then-kind-gt1 : goal.returns-then-kind-gt1
returns-then-kind-gt1 c = gate-kind _ _ _ _ c.kind.ensures c.if-kind-gt1.true

pub returns-then-own-left : goal.returns-then-own-left
returns-then-own-left c = gate-left _ _ _ _ _ c.kind.ensures c.left.ensures (omega arith) (omega arith)

pub returns : goal.returns
returns c = gate-right _ _ _ _ _ _ c.kind.ensures c.left.ensures c.right.ensures (omega arith) (omega arith)
