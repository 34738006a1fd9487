-- Gate lists: gates, the words of a list, the numbers of its gates by kind.
use Rattle.std.specs.Prelude.{List, [], ◌∷◌, ◌++◌, ℕ, suc, length}

-- "Words of 32 bits": each is less than this
abbrev pub word_limit : ℕ
word_limit = 4294967296

-- "kind 0 AND, 1 XOR", each with its left and its right wire
pub data Gate : Type 0 where
  AND XOR : ℕ → ℕ → Gate

-- a netlist: its gates, and its "output wires for coordinates 0 to m-1"
pub record Netlist : Type 0 where
  pub gates : List Gate
  pub outputs : List ℕ

-- "(kind, left wire, right wire), kind 0 AND, 1 XOR"
abbrev pub gate_word : Gate → List ℕ
gate_word (AND left right) = 0 ∷ left ∷ right ∷ []
gate_word (XOR left right) = 1 ∷ left ∷ right ∷ []

-- "g times (kind, left wire, right wire)"
unfoldable pub gate_words : List Gate → List ℕ
gate_words [] = []
gate_words (g ∷ gs) = gate_word g ++ gate_words gs

-- "Words of 32 bits: m; the number g of gates; g times (kind, left wire, right wire) ..; m output wires"
unfoldable pub words : ℕ → Netlist → List ℕ
words m list = m ∷ length list.gates ∷ gate_words list.gates ++ list.outputs

-- "They are the numbers of kind 0 .. among the g"
unfoldable pub and_gates : List Gate → ℕ
and_gates [] = 0
and_gates (AND left right ∷ gs) = suc (and_gates gs)
and_gates (XOR left right ∷ gs) = and_gates gs

-- "and of kind 1 gates among the g"
unfoldable pub xor_gates : List Gate → ℕ
xor_gates [] = 0
xor_gates (AND left right ∷ gs) = xor_gates gs
xor_gates (XOR left right ∷ gs) = suc (xor_gates gs)
