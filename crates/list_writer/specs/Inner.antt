-- A list in the buffer.
use Rattle.std.specs.Prelude.{◌≡◌, List, ◌++◌, ℕ, length, drop}
use Rattle.std.proofs.lemmas.List.Edits.{sets}
use Rattle.netlist.specs.Gates.{Netlist, gate_words, words as words_of}

-- a list's gates are stored, and its output wires aside
pub record Written (list : Netlist) (old wires out ends : List ℕ) : Type 0 where
  pub words : out ≡ sets old 2 (gate_words list.gates)
  pub outputs : ends ≡ sets wires 0 list.outputs

-- the list's words at the front of the buffer
abbrev pub listed : ℕ → Netlist → List ℕ → List ℕ
listed m list old = words_of m list ++ drop (length (words_of m list)) old
