-- What is proved of the report beside the contracts: the statements alone.
use Rattle.std.specs.Prelude.{◌≡◌, List, ◌++◌, ℕ, ◌≤◌, length, Err}
use Rattle.judging.specs.declared.fault.Fault.{Fault}
use Rattle.judging.specs.Faults.{number_of}
use Rattle.io.specs.Digits.{IsDigitCount}
use Rattle.card.specs.Statements.{Bytes}
use Rattle.reporting.specs.Text.{digit_count, room}
use Rattle.reporting.specs.Report.{refusal, report, verdict}

-- the fault f is not given this number
abbrev pub Not : ℕ → Fault → Type 0
Not n f = (number_of f).0 ≡ n → ⊥

pub record ReportLaws : Type 0 where
  -- the number of digits is the one of which the kit's contract speaks
  pub digits : (n : ℕ) → IsDigitCount 10 1 n (digit_count n)
  -- nothing of a report is cut off
  pub fits : (s : List ℕ) → Bytes s → length (report s) ≤ room
  -- a report that does not accept ends with the number of its fault
  pub refuses : (s : List ℕ) (f : Fault) → verdict s ≡ Err f → (front : List ℕ) × (report s ≡ front ++ refusal f)
  -- 3 and 11 can't come out
  pub three : (s : List ℕ) (f : Fault) → Bytes s → verdict s ≡ Err f → Not 3 f
  pub eleven : (s : List ℕ) (f : Fault) → Bytes s → verdict s ≡ Err f → Not 11 f
