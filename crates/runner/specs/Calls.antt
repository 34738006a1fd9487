-- What running leaves in its two buffers, for every input: where there is a fault, what they had.
-- First on operands of W bytes, then on carried ones.
use Rattle.std.specs.Prelude.{List, ℕ, is_ok}
use Rattle.gf2.specs.Operands.{bytes_for, choose}
use Rattle.judging.specs.Causes.{Verdict}
use Rattle.operand.specs.declared.Operand.{Operand}
use Rattle.netlist.specs.Running.{read_list, wires, result}

-- "coordinate r of the result is the value of the output wire for r"
abbrev pub run_bytes_result : Verdict → ℕ → List ℕ → List ℕ → List ℕ → List ℕ → List ℕ
run_bytes_result v m list a b old = choose (is_ok v) (result (bytes_for m) m (read_list list m) a b) old

-- "afterwards byte n is wire n's value"
abbrev pub run_bytes_wires : Verdict → ℕ → List ℕ → List ℕ → List ℕ → List ℕ → List ℕ
run_bytes_wires v m list a b old = choose (is_ok v) (wires m (read_list list m) a b) old

abbrev pub run_result : Verdict → ℕ → List ℕ → Operand → Operand → List ℕ → List ℕ
run_result v m list a b old = run_bytes_result v m list a.bytes b.bytes old

abbrev pub run_wires : Verdict → ℕ → List ℕ → Operand → Operand → List ℕ → List ℕ
run_wires v m list a b old = run_bytes_wires v m list a.bytes b.bytes old
