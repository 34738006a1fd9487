-- Document 02, (f), over the check: number 7 and its test, the row sum, are taken out.
use Rattle.std.specs.Prelude.{◌≡◌, ◌↔◌, List, ℕ, ◌<◌, ◌≤◌, Ok, Err}
use Rattle.std.specs.Result.{result_and}
use Rattle.gf2.specs.Operands.{choose, same}
use Rattle.gf2.specs.Tables.{IsTable, basis}
use Rattle.gf2.specs.Check.{Rule6, Symmetric, Accepted}
use Rattle.gf2.specs.Statements.{Rule7, row_sum}
use Rattle.judging.specs.declared.fault.Fault.{Fault}
use Rattle.judging.specs.Faults.{number_of}
use Rattle.table.specs.Rows.{Shaped}
use Rattle.table.specs.Judgements.{check_verdict}

pub record OneVerdictFewer : Type 0 where
  -- "In all our trials the row sum never failed once the triples agreed. It can't": rules 4, 5 and 6 imply rule 7. "Show this for every
  -- width": for widths of any size
  pub row_sums : (m : ℕ) (table : List ℕ) → 2 ≤ m → IsTable m table → Symmetric m table →
      ((i j : ℕ) → i < m → j < m → Rule6 m table i j) → Rule7 m table
  -- "and take number 7 and its test out.": by demand 1 the number of each call is that of a fault, and none has this one
  pub never7 : (f : Fault) → ¬ ((number_of f).0 ≡ 7)
  -- "The check then ends with 6,"
  pub ends : (m : ℕ) (table : List ℕ) (f : Fault) → check_verdict m table ≡ Err f → (number_of f).0 ≤ 6
  -- "and what it accepts is the same set.": no fault just where the shape is a table's and rules 4 to 7 hold
  pub same_set : (m : ℕ) (table : List ℕ) → (check_verdict m table ≡ Ok tt) ↔ (Shaped m table × Accepted m table × Rule7 m table)
  -- nor does it refuse otherwise: with the row sum tested last, and any fault f for it, every answer would be as it is
  pub unchanged : (m : ℕ) (table : List ℕ) (f : Fault) →
      result_and (check_verdict m table) (choose (same (row_sum m table) (basis m 0)) (Ok tt) (Err f)) ≡ check_verdict m table
