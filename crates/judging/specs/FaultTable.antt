-- Document 01's table of faults, row by row, of what is handed in: m is a width. What a card, a type and a gate list are judged by stands with them.
use Rattle.std.specs.Prelude.{not, ◌&&◌, ◌≡◌, refl, List, [], ◌∷◌, ◌++◌, ℕ, ◌-◌, ◌*◌, ◌<◌, ◌≤◌, leb, ltb, eqb, length}
use Rattle.gf2.specs.Sums.{every}
use Rattle.gf2.specs.Operands.{max_width, bytes_for, HasHighBit, is_clear, same, zeroes, turned}
use Rattle.gf2.specs.Quadratic.{trace}
use Rattle.gf2.specs.Tables.{row, basis}
use Rattle.gf2.specs.Products.{product}
use Rattle.gf2.specs.Check.{Rule4, Rule5, Rule6}
use Rattle.gf2.proofs.Decisions.{width-decides, other-decides, less-decides, equal-decides, high-decides, rows-decide, same-decides, unlike-decides}
use Rattle.judging.specs.declared.fault.Fault.TheVariants.{Width, Length, HighBit, RowZero, RowPair, Triple, Call}
use Rattle.judging.specs.declared.fault.CallFault.TheVariants.{InverseOfZero, TraceOne, OutputShort}
use Rattle.judging.specs.Causes.{Cause, from}

-- "width not 2..571"
abbrev pub BadWidth : ℕ → Type 0
BadWidth m = ¬ ((2 ≤ m) × (m ≤ max_width))

-- 1: "width not 2..571"
abbrev pub bad_width : ℕ → Cause
bad_width m =
    record { Holds = BadWidth m; test = not (leb 2 m && leb m max_width); exact = width-decides m; fault = Width; numbered = refl }

-- 2: "a length not as laid down"; "An operand whose carried width isn't that of the table, or of the other operand, gets 2"
abbrev pub bad_length : ℕ → ℕ → Cause
bad_length given laid_down =
    record { Holds = ¬ (given ≡ laid_down); test = not (eqb given laid_down); exact = other-decides given laid_down; fault = Length; numbered = refl }

-- "An operand is W bytes", and so is a result
abbrev pub not_w : ℕ → List ℕ → Cause
not_w m bytes = bad_length (length bytes) (bytes_for m)

-- "A table is m rows, each an operand of W bytes, m·W in all"
abbrev pub not_table : ℕ → List ℕ → Cause
not_table m table = bad_length (length table) (m * bytes_for m)

-- 3: "bit set at m or above", of an operand
abbrev pub high_bit : ℕ → List ℕ → Cause
high_bit m bytes =
    record { Holds = HasHighBit m bytes; test = not (is_clear m bytes); exact = high-decides m bytes; fault = HighBit; numbered = refl }

-- 3: "bit set at m or above", of some row of a table
abbrev pub high_bit_in_row : ℕ → List ℕ → Cause
high_bit_in_row m table =
    record {
      Holds = (d : ℕ) × (d < m) × HasHighBit m (row m table d);
      test = not (every m (λ d. is_clear m (row m table d)));
      exact = rows-decide m table;
      fault = HighBit;
      numbered = refl;
    }

-- 4: "row 0 wrong": "row 0 has only coordinate 1"
abbrev pub row_zero_wrong : ℕ → List ℕ → Cause
row_zero_wrong m table =
    record {
      Holds = ¬ Rule4 m table;
      test = not (same (row m table 0) (basis m 1));
      exact = unlike-decides _ _;
      fault = RowZero;
      numbered = refl;
    }

-- 5: "rows d, m-d differ": "row d equals row m-d turned d places"
abbrev pub rows_differ : ℕ → List ℕ → ℕ → Cause
rows_differ m table d =
    record {
      Holds = ¬ Rule5 m table d;
      test = not (same (row m table d) (turned m d (row m table (m - d))));
      exact = unlike-decides _ _;
      fault = RowPair d;
      numbered = refl;
    }

-- 6: "triple differs": "(β0·βi)·βj = β0·(βi·βj)"
abbrev pub triple_differs : ℕ → List ℕ → ℕ → ℕ → Cause
triple_differs m table i j =
    record {
      Holds = ¬ Rule6 m table i j;
      test =
          not
          (same
          (product m table (product m table (basis m 0) (basis m i)) (basis m j))
          (product m table (basis m 0) (product m table (basis m i) (basis m j))));
      exact = unlike-decides _ _;
      fault = Triple i j;
      numbered = refl;
    }

-- 7 has no cause: "take number 7 and its test out", by document 02, (f)

-- 8 has no cause: "Number 8 is never given any more", by document 02, (d)

-- 9: "inverse of zero", of an operand of n bytes
abbrev pub is_zero : ℕ → ℕ → List ℕ → Cause
is_zero n m a =
    record { Holds = a ≡ zeroes n m; test = same a (zeroes n m); exact = same-decides a (zeroes n m); fault = Call InverseOfZero; numbered = refl }

-- 10: "trace of c is 1"
abbrev pub trace_is_one : ℕ → List ℕ → Cause
trace_is_one m c =
    record { Holds = trace m c ≡ 1; test = eqb (trace m c) 1; exact = equal-decides (trace m c) 1; fault = Call TraceOne; numbered = refl }

-- 11: "lent output shorter than needed"
abbrev pub too_short : ℕ → ℕ → Cause
too_short given needed =
    record { Holds = given < needed; test = ltb given needed; exact = less-decides given needed; fault = Call OutputShort; numbered = refl }

-- 1 to 3 of a table: "A table is m rows, each an operand of W bytes, m·W in all"
abbrev pub shape_causes : ℕ → List ℕ → List Cause
shape_causes m table = bad_width m ∷ not_table m table ∷ high_bit_in_row m table ∷ []

-- 5: "row d equals row m-d turned d places, d = 1 to m-1"; "number, least d"
abbrev pub row_pair_causes : ℕ → List ℕ → List Cause
row_pair_causes m table = from 1 (m - 1) (λ d. rows_differ m table d ∷ [])

-- 4, then 5
abbrev pub rule_causes : ℕ → List ℕ → List Cause
rule_causes m table = row_zero_wrong m table ∷ row_pair_causes m table

-- 1 to 5: "4 and 5 also for the reduced product and gate lists"
abbrev pub symmetry_causes : ℕ → List ℕ → List Cause
symmetry_causes m table = shape_causes m table ++ rule_causes m table

-- 6: "i outer and j inner, both from 0, where the search ends at the first pair that differs and returns it"
abbrev pub triple_causes : ℕ → List ℕ → List Cause
triple_causes m table = from 0 m (λ i. from 0 m (λ j. triple_differs m table i j ∷ []))

-- 1 to 6: "A table is accepted when the check gives no number for it"; "The check then ends with 6"
abbrev pub check_causes : ℕ → List ℕ → List Cause
check_causes m table = symmetry_causes m table ++ triple_causes m table
