-- What is proved of the three lists of a table when they are run: the statements alone.
-- Runs: a list's words are read back as the list, and no fault is found in them. ListsRun: so for each of the three, under rules 4 and 5.
use Rattle.std.specs.Prelude.{◌≡◌, List, ℕ, ◌+◌, ◌*◌, ◌≤◌, length, Ok}
use Rattle.gf2.specs.Operands.{max_width, bytes_for, carried_bytes, IsOperand}
use Rattle.gf2.specs.Tables.{IsTable}
use Rattle.gf2.specs.Check.{Symmetric}
use Rattle.judging.specs.Causes.{judged}
use Rattle.operand.specs.declared.Operand.{Operand}
use Rattle.netlist.specs.Gates.{Netlist, words}
use Rattle.netlist.specs.Lists.{plain, reduced, common}
use Rattle.netlist.specs.Running.{read_list}
use Rattle.runner.specs.Causes.{run_causes, run_bytes_causes}

pub record Runs (m : ℕ) (list : Netlist) : Type 0 where
  pub read_back : read_list (words m list) m ≡ list
  -- on operands of this width, carried and of W bytes, with buffers of the lengths laid down
  pub no_fault : m ≤ max_width → (a b : Operand) → a.width ≡ m → b.width ≡ m →
      IsOperand carried_bytes m a.bytes → IsOperand carried_bytes m b.bytes →
      judged (run_causes m (words m list) a b (bytes_for m) (2 * m + length list.gates)) ≡ Ok tt
  pub no_bytes_fault : m ≤ max_width → (a b old lent : List ℕ) → IsOperand (bytes_for m) m a → IsOperand (bytes_for m) m b →
      length old ≡ bytes_for m → length lent ≡ 2 * m + length list.gates →
      judged (run_bytes_causes m (words m list) a b old lent) ≡ Ok tt

pub record ListsRun (m : ℕ) (table : List ℕ) : Type 0 where
  pub of_plain : Runs m (plain m table)
  pub of_reduced : Runs m (reduced m table)
  pub of_common : Runs m (common m table)

abbrev pub TheoremRuns : Type 0
TheoremRuns = (m : ℕ) (table : List ℕ) → 2 ≤ m → IsTable m table → Symmetric m table → ListsRun m table
