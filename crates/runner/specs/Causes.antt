-- What running a list judges: its causes, in document 01's order. Those of widths, lengths and bits stand in crate judging (FaultTable).
use Rattle.std.specs.Prelude.{not, ◌&&◌, refl, List, [], ◌∷◌, ℕ, ◌+◌, ◌*◌, ◌<◌, ltb, length, get_or}
use Rattle.gf2.specs.Sums.{every}
use Rattle.gf2.specs.Operands.{bytes_for}
use Rattle.gf2.proofs.Decisions.{less-decides}
use Rattle.judging.specs.declared.fault.Fault.TheVariants.{Length, Call}
use Rattle.judging.specs.declared.fault.CallFault.TheVariants.{BadGate}
use Rattle.judging.specs.Causes.{Cause}
use Rattle.judging.specs.FaultTable.{bad_width, bad_length, not_w, high_bit}
use Rattle.operand.specs.declared.Operand.{Operand}
use Rattle.netlist.specs.Running.{gate_count}
use Rattle.netlist.specs.Judgements.{HasBadGate, is_gate, is_output}
use Rattle.netlist.proofs.GateTests.{gates-decide}

-- 2: "A list of fewer than two words"
abbrev pub few_words : List ℕ → Cause
few_words list =
    record { Holds = length list < 2; test = ltb (length list) 2; exact = less-decides (length list) 2; fault = Length; numbered = refl }

-- 2: "or one whose first word isn't the width given with the operands"
abbrev pub other_width : ℕ → List ℕ → Cause
other_width m list = bad_length (get_or list 0 0) m

-- 2: "exactly 2+3g+m words"
abbrev pub bad_words : ℕ → List ℕ → Cause
bad_words m list = bad_length (length list) (2 + 3 * gate_count list + m)

-- 2, of the words of a list
abbrev pub list_word_causes : ℕ → List ℕ → List Cause
list_word_causes m list = few_words list ∷ other_width m list ∷ bad_words m list ∷ []

-- 2: "a byte per wire (2m+g)"
abbrev pub bad_wires : ℕ → List ℕ → ℕ → Cause
bad_wires m list wires = bad_length wires (2 * m + gate_count list)

-- 18: "kind above 1, gate wire not earlier, output wire absent"
abbrev pub bad_gates : ℕ → List ℕ → Cause
bad_gates m list =
    record {
      Holds = HasBadGate m list;
      test = not (every (gate_count list) (is_gate m list) && every m (is_output m list));
      exact = gates-decide m list;
      fault = Call BadGate;
      numbered = refl;
    }

-- on two carried operands, a result and a byte per wire of these lengths
abbrev pub run_causes : ℕ → List ℕ → Operand → Operand → ℕ → ℕ → List Cause
run_causes m list a b result wires =
    bad_width m
    ∷ bad_width a.width
    ∷ bad_width b.width
    ∷ bad_length a.width m
    ∷ bad_length b.width m
    ∷ bad_length result (bytes_for m)
    ∷ few_words list
    ∷ other_width m list
    ∷ bad_words m list
    ∷ bad_wires m list wires
    ∷ high_bit m a.bytes
    ∷ high_bit m b.bytes
    ∷ bad_gates m list
    ∷ []

-- on two operands of W bytes
abbrev pub run_bytes_causes : ℕ → List ℕ → List ℕ → List ℕ → List ℕ → List ℕ → List Cause
run_bytes_causes m list a b result wires =
    bad_width m
    ∷ not_w m a
    ∷ not_w m b
    ∷ not_w m result
    ∷ few_words list
    ∷ other_width m list
    ∷ bad_words m list
    ∷ bad_wires m list (length wires)
    ∷ high_bit m a
    ∷ high_bit m b
    ∷ bad_gates m list
    ∷ []
