-- What the public calls store: the gates that each pair gives by itself, and where a part of a list is stored.
use Rattle.std.specs.Prelude.{◌≡◌, Bool, true, false, List, [], ℕ, ◌+◌, ◌*◌, ◌/◌, length, ltb}
use Rattle.std.proofs.lemmas.List.Edits.{sets}
use Rattle.gf2.specs.Operands.{max_width, choose}
use Rattle.netlist.specs.Gates.{Gate, AND, XOR, word_limit, gate_words}
use Rattle.netlist.specs.Lists.{each, only, and_wire}
use Rattle.list_pairs.specs.declared.store.Kind.{Kind}
use Rattle.list_pairs.specs.declared.store.Kind.TheVariants.{And, Xor}

-- "kind 0 AND, 1 XOR"
abbrev pub kind_word : Kind → ℕ
kind_word And = 0
kind_word Xor = 1

-- m is a width, `count` coordinates are no more than it has, and every wire of a part from gate n on is a word
abbrev pub fits : ℕ → ℕ → ℕ → Bool
fits m count n = choose (ltb m 2) false (choose (ltb max_width m) false (choose (ltb m count) false (ltb n (word_limit / 2))))

-- the gates are stored as gate n and those after it, and k is the next
pub record GatesPut (n : ℕ) (old : List ℕ) (gates : List Gate) (k : ℕ) (out : List ℕ) : Type 0 where
  pub next : k ≡ n + length gates
  pub words : out ≡ sets old (2 + 3 * n) (gate_words gates)

-- the gate that a pair gives by itself: its AND, or where they are mixed the XOR of two ANDs
unfoldable pub pair_gate : Bool → ℕ → ℕ → ℕ → List Gate
pair_gate false m i j = only true (AND i (m + j))
pair_gate true m i j = only (ltb i j) (XOR (and_wire m i j) (and_wire m j i))

-- those of the first j pairs of i, and of all pairs of the first n
unfoldable pub row_gates : Bool → ℕ → ℕ → ℕ → List Gate
row_gates mixed m i j = each j (pair_gate mixed m i)

unfoldable pub pair_gates : Bool → ℕ → ℕ → List Gate
pair_gates mixed m n = each n (λ i. row_gates mixed m i m)

-- those of all pairs, from gate n on
abbrev pub pairs_from : Bool → ℕ → ℕ → List Gate
pairs_from mixed m n = choose (fits m m n) (pair_gates mixed m m) []
