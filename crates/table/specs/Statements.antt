-- What is proved of the verdicts on a table: the statements alone. A table is any list of numbers; that they are bytes is asked for the
-- shape alone, since rules 4 and 5 imply it.
-- Shape, Symmetry, Acceptance: 1 to 3, 1 to 5 and 1 to 6 give no fault exactly where the rules hold.
-- Fields: the check gives no fault exactly where the operands form a field whose square is the turn by one.
-- SameSet: with document 01's rule 7, the row sum, the same tables would be accepted. FirstTriples: 6 is given with i = 0 alone.
-- CarriedPass: the four carried tables are accepted.
use Rattle.std.specs.Prelude.{◌≡◌, ◌↔◌, List, ℕ, Ok, Err}
use Rattle.gf2.specs.Coordinates.{Bytes}
use Rattle.gf2.specs.Check.{Symmetric, Accepted}
use Rattle.gf2.specs.Field.{Field, Squares}
use Rattle.gf2.specs.Statements.{Rule7}
use Rattle.judging.specs.declared.fault.Fault.TheVariants.{Triple}
use Rattle.table.specs.Carried.{carried2, carried3, carried4, carried5}
use Rattle.table.specs.Rows.{Shaped}
use Rattle.table.specs.Judgements.{shape_verdict, symmetry_verdict, check_verdict}

-- 1 to 3: "A table is m rows, each an operand of W bytes, m·W in all"
abbrev pub Shape : Type 0
Shape = (m : ℕ) (table : List ℕ) → Bytes table → (shape_verdict m table ≡ Ok tt) ↔ Shaped m table

-- 1 to 5: "row 0 has only coordinate 1; row d equals row m-d turned d places"
abbrev pub Symmetry : Type 0
Symmetry = (m : ℕ) (table : List ℕ) → (symmetry_verdict m table ≡ Ok tt) ↔ (Shaped m table × Symmetric m table)

-- "A table is accepted when the check gives no number for it."
abbrev pub Acceptance : Type 0
Acceptance = (m : ℕ) (table : List ℕ) → (check_verdict m table ≡ Ok tt) ↔ (Shaped m table × Accepted m table)

-- "Under a table the operands form a field if, for all a, b and c and with its plain product: .."
abbrev pub Fields : Type 0
Fields = (m : ℕ) (table : List ℕ) → (check_verdict m table ≡ Ok tt) ↔ (Shaped m table × Field m table × Squares m table)

-- document 02, (f): "what it accepts is the same set": no number just where document 01's check, which asked rule 7 too, gave none
abbrev pub SameSet : Type 0
SameSet = (m : ℕ) (table : List ℕ) → (check_verdict m table ≡ Ok tt) ↔ (Shaped m table × Accepted m table × Rule7 m table)

-- rules 4 and 5 with rule 6 for i = 0 imply rule 6: the first pair that differs has i = 0
abbrev pub FirstTriples : Type 0
FirstTriples = (m : ℕ) (table : List ℕ) → (i j : ℕ) → check_verdict m table ≡ Err (Triple i j) → i ≡ 0

-- "Four tables are carried in the program itself"
pub record CarriedPass : Type 0 where
  pub width2 : check_verdict 2 carried2 ≡ Ok tt
  pub width3 : check_verdict 3 carried3 ≡ Ok tt
  pub width4 : check_verdict 4 carried4 ≡ Ok tt
  pub width5 : check_verdict 5 carried5 ≡ Ok tt
