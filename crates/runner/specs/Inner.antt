-- What only inner functions cite: the parts of the causes, and what the filling of wires and result is given.
use Rattle.std.specs.Prelude.{◌≡◌, true, List, [], ◌∷◌, ◌++◌, ℕ, ◌+◌, ◌-◌, ◌*◌, ◌<◌, ◌≤◌, length, get_or}
use Rattle.gf2.specs.Sums.{every}
use Rattle.gf2.specs.Operands.{max_width, bytes_for}
use Rattle.judging.specs.Causes.{Cause}
use Rattle.judging.specs.FaultTable.{bad_width, bad_length, high_bit}
use Rattle.operand.specs.declared.Operand.{Operand}
use Rattle.netlist.specs.Running.{applied, value_on, kind_at, left_at, right_at, gate_count, output_at}
use Rattle.netlist.specs.Judgements.{is_gate, is_output}
use Rattle.runner.specs.Causes.{few_words, other_width, bad_words, bad_wires, bad_gates}

-- three widths; three lengths, each as laid down
abbrev pub width_causes : ℕ → ℕ → ℕ → List Cause
width_causes m a b = bad_width m ∷ bad_width a ∷ bad_width b ∷ []

abbrev pub length_causes : ℕ → ℕ → ℕ → ℕ → ℕ → ℕ → List Cause
length_causes a m b n c k = bad_length a m ∷ bad_length b n ∷ bad_length c k ∷ []

-- carried operands and a result
abbrev pub carried_causes : ℕ → Operand → Operand → ℕ → List Cause
carried_causes m a b result = width_causes m a.width b.width ++ length_causes a.width m b.width m result (bytes_for m)

-- the words of a list, and the length of the buffer for its wires
abbrev pub word_causes : ℕ → List ℕ → ℕ → List Cause
word_causes m list wires = few_words list ∷ other_width m list ∷ bad_words m list ∷ bad_wires m list wires ∷ []

-- 3 of both operands, then 18
abbrev pub bit_causes : ℕ → List ℕ → List ℕ → List ℕ → List Cause
bit_causes m list a b = high_bit m a ∷ high_bit m b ∷ bad_gates m list ∷ []

-- all that is judged after the sizes of operands and result
abbrev pub list_causes : ℕ → List ℕ → List ℕ → List ℕ → ℕ → List Cause
list_causes m list a b wires = word_causes m list wires ++ bit_causes m list a b

-- "a byte per wire (2m+g)"
abbrev pub BytePerWire : ℕ → List ℕ → List ℕ → Type 0
BytePerWire m list wires = length wires ≡ 2 * m + gate_count list

-- the value of the output wire for r
abbrev pub on_output : List ℕ → List ℕ → ℕ → ℕ
on_output wires list = λ r. value_on wires (output_at list r)

-- the first n values are "0 or 1"
pub record AreBits (n : ℕ) (values : List ℕ) : Type 0 where
  pub bit : (k : ℕ) → k < n → value_on values k < 2

-- the value of gate k, from those of the wires
abbrev pub gate_at : List ℕ → ℕ → List ℕ → ℕ
gate_at list k values = applied (kind_at list k) (value_on values (left_at list k)) (value_on values (right_at list k))

-- the n wires before a gate's own are filled, and the last of them is at hand
pub record IsNext (n : ℕ) (values : List ℕ) (last : ℕ) : Type 0 where
  pub room : n ≤ length values
  pub bits : AreBits n values
  pub at_hand : last ≡ get_or values (n - 1) 0

-- a width, gates whose wires are earlier, and output wires that are there
pub record IsRunnable (m : ℕ) (list : List ℕ) : Type 0 where
  pub least : 1 ≤ m
  pub greatest : m ≤ max_width
  pub gates : every (gate_count list) (is_gate m list) ≡ true
  pub outputs : every m (is_output m list) ≡ true
