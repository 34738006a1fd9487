-- `runner::wires::gate_value` meets its contract.
use Rattle.runner.proofs.RunLaws.{and-bits, xor-bits}
use Rattle.runner.proofs.wires.gate_value.Goals as goal

pub returns-then-kind-eq0 : goal.returns-then-kind-eq0
returns-then-kind-eq0 c = and-bits _ _ _ c.if-kind-eq0.true c.requires.0 c.requires.1

pub returns-else-kind-eq0 : goal.returns-else-kind-eq0
returns-else-kind-eq0 c = xor-bits _ _ _ c.if-kind-eq0.false c.requires.0 c.requires.1
