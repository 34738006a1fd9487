-- The plain, the reduced and the common list of a table, gate by gate.
use Rattle.std.specs.Prelude.{Bool, true, false, not, ◌&&◌, List, [], ◌∷◌, ◌++◌, ℕ, zero, suc, ◌+◌, ◌-◌, ◌*◌, length, ltb, eqb}
use Rattle.gf2.specs.Sums.{sum, every}
use Rattle.gf2.specs.Coordinates.{coord}
use Rattle.gf2.specs.Operands.{choose, minus}
use Rattle.gf2.specs.Tables.{row, pair_product}
use Rattle.netlist.specs.Gates.{Gate, AND, XOR, Netlist}

-- f 0, f 1, .., f (n - 1), one after another
unfoldable pub each : {A : Type 0} → ℕ → (ℕ → List A) → List A
each zero f = []
each (suc n) f = each n f ++ f n

unfoldable pub only : {A : Type 0} → Bool → A → List A
only true x = x ∷ []
only false x = []

-- "Pairs go by i, then j": f i j for those pairs that pass the test
unfoldable pub pairs : {A : Type 0} → ℕ → (ℕ → ℕ → Bool) → (ℕ → ℕ → A) → List A
pairs m test f = each m (λ i. each m (λ j. only (test i j) (f i j)))

-- how many such pairs go before i, j
unfoldable pub before : ℕ → (ℕ → ℕ → Bool) → ℕ → ℕ → ℕ
before m test i j = sum i (λ k. sum m (λ l. choose (test k l) 1 0)) + sum j (λ l. choose (test i l) 1 0)

-- "gate n gives wire 2m+n"
abbrev pub gate_wire : ℕ → ℕ → ℕ
gate_wire m n = 2 * m + n

-- "ai·bj being gate i·m+j"
abbrev pub and_wire : ℕ → ℕ → ℕ → ℕ
and_wire m i j = gate_wire m (i * m + j)

-- "Each list starts with ANDs"; "Wires 0 to m-1 are a, m to 2m-1 are b"
unfoldable pub ands : ℕ → List Gate
ands m = pairs m (λ i j. true) (λ i j. AND i (m + j))

-- "each next term is an XOR with the running wire left": the gates from wire n on, and the last running wire
unfoldable pub onto : ℕ → ℕ → List ℕ → List Gate
onto n running [] = []
onto n running (t ∷ terms) = XOR running t ∷ onto (suc n) n terms

unfoldable pub last_wire : ℕ → ℕ → List ℕ → ℕ
last_wire n running [] = running
last_wire n running (t ∷ terms) = last_wire (suc n) n terms

-- "Fold": "the first term is the running wire"
abbrev pub fold : ℕ → List ℕ → List Gate
fold n [] = []
fold n (t ∷ terms) = onto n t terms

-- the wire of a fold's sum
abbrev pub end : ℕ → List ℕ → ℕ
end n [] = 0
end n (t ∷ terms) = last_wire n t terms

-- the first wire of the fold for r, where the folds start at wire n
unfoldable pub start : ℕ → (ℕ → List ℕ) → ℕ → ℕ
start n terms r = n + sum r (λ k. length (terms k) - 1)

-- "for each r fold": the gates, and their output wires
unfoldable pub folds : ℕ → ℕ → (ℕ → List ℕ) → List Gate
folds m n terms = each m (λ r. fold (start n terms r) (terms r))

unfoldable pub ends : ℕ → ℕ → (ℕ → List ℕ) → List ℕ
ends m n terms = each m (λ r. end (start n terms r) (terms r) ∷ [])

-- the list that starts with these gates, and then for each r folds the terms of r
unfoldable pub folded : ℕ → List Gate → (ℕ → List ℕ) → Netlist
folded m gates terms =
    record {
      gates = gates ++ folds m (gate_wire m (length gates)) terms;
      outputs = ends m (gate_wire m (length gates)) terms;
    }

-- "βi·βj has coordinate r"
abbrev pub has : ℕ → List ℕ → ℕ → ℕ → ℕ → Bool
has m table r i j = eqb (coord (pair_product m table i j) r) 1

-- "Plain: for each r fold the pairs having coordinate r"
unfoldable pub plain_terms : ℕ → List ℕ → ℕ → List ℕ
plain_terms m table r = pairs m (has m table r) (and_wire m)

unfoldable pub plain : ℕ → List ℕ → Netlist
plain m table = folded m (ands m) (plain_terms m table)

-- "Reduced: for each i < j an XOR of ai·bj (left) and aj·bi"
unfoldable pub mixes : ℕ → List Gate
mixes m = pairs m ltb (λ i j. XOR (and_wire m i j) (and_wire m j i))

abbrev pub mix_wire : ℕ → ℕ → ℕ → ℕ
mix_wire m i j = gate_wire m (m * m + before m ltb i j)

-- "For each r fold a(r-1)·b(r-1), then those XORs having coordinate r"
unfoldable pub reduced_terms : ℕ → List ℕ → ℕ → List ℕ
reduced_terms m table r =
    and_wire m (minus m r 1) (minus m r 1) ∷ pairs m (λ i j. ltb i j && has m table r i j) (mix_wire m)

unfoldable pub reduced : ℕ → List ℕ → Netlist
reduced m table = folded m (ands m ++ mixes m) (reduced_terms m table)

-- all coordinates are 1
unfoldable pub all_ones : ℕ → List ℕ → Bool
all_ones m bytes = every m (λ r. eqb (coord bytes r) 1)

-- the number of all-ones rows
unfoldable pub full_rows : ℕ → List ℕ → ℕ
full_rows m table = sum m (λ d. choose (all_ones m (row m table d)) 1 0)

-- "all pairs whose product is all ones"
abbrev pub is_shared : ℕ → List ℕ → ℕ → ℕ → Bool
is_shared m table i j = all_ones m (pair_product m table i j)

unfoldable pub shared_terms : ℕ → List ℕ → List ℕ
shared_terms m table = pairs m (is_shared m table) (and_wire m)

-- "fold all pairs whose product is all ones into s"
abbrev pub shared_wire : ℕ → List ℕ → ℕ
shared_wire m table = end (gate_wire m (m * m)) (shared_terms m table)

-- "for each r fold the other pairs having r, then XOR with s on the right"
unfoldable pub other_terms : ℕ → List ℕ → ℕ → List ℕ
other_terms m table r =
    pairs m (λ i j. has m table r i j && not (is_shared m table i j)) (and_wire m) ++ (shared_wire m table ∷ [])

unfoldable pub sharing : ℕ → List ℕ → Netlist
sharing m table = folded m (ands m ++ fold (gate_wire m (m * m)) (shared_terms m table)) (other_terms m table)

abbrev pub if_none : {A : Type 0} → ℕ → A → A → A
if_none zero x y = x
if_none (suc n) x y = y

-- "Common (002): with no all-ones row, the plain list"
unfoldable pub common : ℕ → List ℕ → Netlist
common m table = if_none (full_rows m table) (plain m table) (sharing m table)
