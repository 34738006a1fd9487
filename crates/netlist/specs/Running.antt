-- What running a list on two operands gives: the values of its wires, and the result; words read as a list.
use Rattle.std.specs.Prelude.{List, [], ◌∷◌, ◌++◌, ℕ, zero, suc, ◌+◌, ◌*◌, ◌%◌, get_or}
use Rattle.gf2.specs.Coordinates.{coord, tabulate}
use Rattle.gf2.specs.Operands.{from_coords}
use Rattle.netlist.specs.Gates.{Gate, AND, XOR, Netlist}
use Rattle.netlist.specs.Lists.{each}

-- "kind 0 AND, 1 XOR", of two values
abbrev pub applied : ℕ → ℕ → ℕ → ℕ
applied zero x y = x * y
applied (suc kind) x y = (x + y) % 2

-- the value of a gate, where v gives those of the wires
abbrev pub gate_value : (ℕ → ℕ) → Gate → ℕ
gate_value v (AND left right) = applied 0 (v left) (v right)
gate_value v (XOR left right) = applied 1 (v left) (v right)

abbrev pub value_on : List ℕ → ℕ → ℕ
value_on values wire = get_or values wire 0

-- "gate n gives wire 2m+n": each gate's value comes after those of the wires before it
unfoldable pub run : List Gate → List ℕ → List ℕ
run [] values = values
run (g ∷ gs) values = run gs (values ++ (gate_value (value_on values) g ∷ []))

-- "Wires 0 to m-1 are a, m to 2m-1 are b"
unfoldable pub inputs : ℕ → List ℕ → List ℕ → List ℕ
inputs m a b = tabulate m (coord a) ++ tabulate m (coord b)

-- "afterwards byte n is wire n's value, 0 or 1"
unfoldable pub wires : ℕ → Netlist → List ℕ → List ℕ → List ℕ
wires m list a b = run list.gates (inputs m a b)

-- "coordinate r of the result is the value of the output wire for r", in n bytes
unfoldable pub result : ℕ → ℕ → Netlist → List ℕ → List ℕ → List ℕ
result n m list a b = from_coords n m (λ r. value_on (wires m list a b) (get_or list.outputs r 0))

-- "kind 0 AND, 1 XOR"
abbrev pub gate_of : ℕ → ℕ → ℕ → Gate
gate_of zero left right = AND left right
gate_of (suc kind) left right = XOR left right

-- "(kind, left wire, right wire)" of gate k
module _ (list : List ℕ) where
  abbrev pub kind_at : ℕ → ℕ
  kind_at k = get_or list (2 + 3 * k) 0

  abbrev pub left_at : ℕ → ℕ
  left_at k = get_or list (2 + 3 * k + 1) 0

  abbrev pub right_at : ℕ → ℕ
  right_at k = get_or list (2 + 3 * k + 2) 0

  -- "the number g of gates"
  abbrev pub gate_count : ℕ
  gate_count = get_or list 1 0

  -- "m output wires for coordinates 0 to m-1"
  abbrev pub output_at : ℕ → ℕ
  output_at r = get_or list (2 + 3 * gate_count + r) 0

  -- the first k gates
  unfoldable pub gates_to : ℕ → List Gate
  gates_to k = each k (λ k. gate_of (kind_at k) (left_at k) (right_at k) ∷ [])

  -- the list of these words
  unfoldable pub read_list : ℕ → Netlist
  read_list m = record { gates = gates_to gate_count; outputs = tabulate m output_at }
