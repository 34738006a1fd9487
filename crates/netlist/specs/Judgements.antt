-- What is judged of the gates of a list that is run, in the words of document 01's table; and what the gates of one that is to be accepted
-- take, in document 02's, (b).
use Rattle.std.specs.Prelude.{◌⊎◌, Bool, ◌&&◌, ◌||◌, List, ℕ, zero, suc, ◌+◌, ◌*◌, ◌<◌, ◌≤◌, leb, ltb}
use Rattle.netlist.specs.Running.{kind_at, left_at, right_at, gate_count, output_at}

-- "gate wire not earlier" than the gate's own
abbrev pub IsLate : ℕ → ℕ → ℕ → Type 0
IsLate m k wire = 2 * m + k ≤ wire

-- "kind above 1, gate wire not earlier", of gate k
abbrev pub IsBadGate : ℕ → List ℕ → ℕ → Type 0
IsBadGate m list k = (1 < kind_at list k) ⊎ IsLate m k (left_at list k) ⊎ IsLate m k (right_at list k)

-- "kind above 1, gate wire not earlier, output wire absent"
abbrev pub HasBadGate : ℕ → List ℕ → Type 0
HasBadGate m list =
    ((k : ℕ) × (k < gate_count list) × IsBadGate m list k)
    ⊎ ((r : ℕ) × (r < m) × (2 * m + gate_count list ≤ output_at list r))

-- a kind that is there, and wires that are earlier than the gate's own
unfoldable pub is_gate : ℕ → List ℕ → ℕ → Bool
is_gate m list k = leb (kind_at list k) 1 && (ltb (left_at list k) (2 * m + k) && ltb (right_at list k) (2 * m + k))

-- an output wire that is there
unfoldable pub is_output : ℕ → List ℕ → ℕ → Bool
is_output m list r = ltb (output_at list r) (2 * m + gate_count list)

-- a wire of a, and one of b: "Wires 0 to m-1 are a, m to 2m-1 are b"
abbrev pub IsA : ℕ → ℕ → Type 0
IsA m wire = wire < m

abbrev pub IsB : ℕ → ℕ → Type 0
IsB m wire = (m ≤ wire) × (wire < 2 * m)

-- an input wire, which is of a or of b
abbrev pub IsInput : ℕ → ℕ → Type 0
IsInput m wire = wire < 2 * m

-- "each AND takes one a wire and one b wire and each XOR takes earlier gates": a gate of this kind, left and right wire
abbrev pub InForm : ℕ → ℕ → ℕ → ℕ → Type 0
InForm m zero left right = (IsA m left × IsB m right) ⊎ (IsB m left × IsA m right)
InForm m (suc kind) left right = (¬ IsInput m left) × (¬ IsInput m right)

-- "a gate outside that form"
abbrev pub HasOtherGate : ℕ → List ℕ → Type 0
HasOtherGate m list = (k : ℕ) × (k < gate_count list) × (¬ InForm m (kind_at list k) (left_at list k) (right_at list k))

-- the tests of it: one wire of a and one of b, in this order
abbrev pub is_pair : ℕ → ℕ → ℕ → Bool
is_pair m a b = ltb a m && (leb m b && ltb b (2 * m))

-- a gate of this kind, left and right wire
unfoldable pub is_in_form : ℕ → ℕ → ℕ → ℕ → Bool
is_in_form m zero left right = is_pair m left right || is_pair m right left
is_in_form m (suc kind) left right = leb (2 * m) left && leb (2 * m) right

-- gate k is of that form
abbrev pub is_formed : ℕ → List ℕ → ℕ → Bool
is_formed m list k = is_in_form m (kind_at list k) (left_at list k) (right_at list k)
