-- What the public call stores: the folds of a table's pairs for the coordinates.
use Rattle.std.specs.Prelude.{Bool, true, false, not, ◌&&◌, List, ◌++◌, ℕ, ltb, eqb, option_to_list}
use Rattle.gf2.specs.Coordinates.{coord}
use Rattle.gf2.specs.Operands.{choose, minus}
use Rattle.gf2.specs.Tables.{row}
use Rattle.netlist.specs.Gates.{Gate}
use Rattle.netlist.specs.Lists.{only, pairs, gate_wire, and_wire, mix_wire, all_ones, folds, ends}
use Rattle.list_pairs.specs.Pairs.{fits}
use Rattle.list_folds.specs.declared.columns.Rows.{Rows}
use Rattle.list_folds.specs.declared.columns.Rows.TheVariants.{All, Full, Others}
use Rattle.list_folds.specs.declared.terms.Terms.{Terms}

-- the rows whose pairs are folded: all; "pairs whose product is all ones"; "the other pairs"
abbrev pub keeps : Rows → ℕ → List ℕ → ℕ → Bool
keeps All m table d = true
keeps Full m table d = all_ones m (row m table d)
keeps Others m table d = not (all_ones m (row m table d))

-- coordinate s of row d, 0 if the row isn't kept
abbrev pub kept_bit : Rows → ℕ → List ℕ → ℕ → ℕ → ℕ
kept_bit rows m table d s = choose (keeps rows m table d) (coord (row m table d) s) 0

-- all pairs, or where they are mixed "each i < j"
abbrev pub in_order : Bool → ℕ → ℕ → Bool
in_order false i j = true
in_order true i j = ltb i j

abbrev pub pair_wire : Bool → ℕ → ℕ → ℕ → ℕ
pair_wire false m i j = and_wire m i j
pair_wire true m i j = mix_wire m i j

-- "fold a(r-1)·b(r-1), then .."
unfoldable pub square_term : Bool → ℕ → ℕ → List ℕ
square_term square m r = only square (and_wire m (minus m r 1) (minus m r 1))

-- what is folded for r: perhaps a square, "the pairs having coordinate r", perhaps a wire "on the right"
unfoldable pub table_terms : Terms → ℕ → List ℕ → ℕ → List ℕ
table_terms t m table r =
    square_term t.mixed m r
    ++ pairs m (λ i j. in_order t.mixed i j && eqb (kept_bit t.rows m table (minus m j i) (minus m r i)) 1) (pair_wire t.mixed m)
    ++ option_to_list t.last

-- how many coordinates are folded, where `count` are asked for
abbrev pub folds_from : ℕ → ℕ → ℕ → ℕ
folds_from m count n = choose (fits m count n) count 0

-- their gates from gate n on, and the wires of their sums
abbrev pub fold_gates : Terms → ℕ → List ℕ → ℕ → ℕ → List Gate
fold_gates t m table count n = folds (folds_from m count n) (gate_wire m n) (table_terms t m table)

abbrev pub fold_wires : Terms → ℕ → List ℕ → ℕ → ℕ → List ℕ
fold_wires t m table count n = ends (folds_from m count n) (gate_wire m n) (table_terms t m table)
