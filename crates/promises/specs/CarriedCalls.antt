-- Demand 1 for the calls on operands that are carried by value, with their width: each call's causes, in document 01's order, are the list
-- that its contract names. "An operand whose carried width isn't that of the table, or of the other operand, gets 2" is judged here; the calls
-- of the C interface take W bytes, which carry no width.
use Rattle.std.specs.Prelude.{◌≡◌, List, [], ◌∷◌, ℕ, length, Result, Ok, Err}
use Rattle.gf2.specs.Operands.{carried_bytes, bytes_for, zeroes, ones, added, turned, squared}
use Rattle.gf2.specs.Quadratic.{trace, root}
use Rattle.gf2.specs.Products.{product, reduced}
use Rattle.gf2.specs.Inverse.{inverse, products_made}
use Rattle.judging.specs.declared.fault.Fault.{Fault}
use Rattle.judging.specs.Causes.{Cause, Verdict, judged, verdict_of, Exact}
use Rattle.judging.specs.FaultTable.{bad_width}
use Rattle.operand.specs.declared.Operand.{Operand}
use Rattle.operand.specs.Causes.{operand_causes, pair_causes, solve_causes}
use Rattle.operand.specs.Calls.{zero_call, one_call, turn_call, square_call, sum_call, trace_call, solve_call}
use Rattle.product.specs.Causes.{product_causes, reduced_causes, inverse_causes}
use Rattle.product.specs.Calls.{product_call, reduced_call, counted, inverse_call}
use Rattle.netlist.specs.Running.{read_list, wires as wires_of, result as result_of}
use Rattle.runner.specs.Causes.{run_causes}
use Rattle.runner.specs.Calls.{run_result, run_wires}
use Rattle.promises.specs.Answers.{Lent}

-- a call that judges these causes and answers the value, or the fault alone
pub record Answers {A : Type 0} (causes : List Cause) (r : Result A Fault) (value : A) : Type 0 where
  pub exact : Exact causes (verdict_of r)
  pub refused : (f : Fault) → verdict_of r ≡ Err f → r ≡ Err f
  pub answered : verdict_of r ≡ Ok tt → r ≡ Ok value

-- a call that answers an operand: that of width m with these bytes
abbrev pub Gives : List Cause → Result Operand Fault → ℕ → List ℕ → Type 0
Gives causes r m bytes = Answers causes r (record { bytes = bytes; width = m })

-- the runner: its verdict, the result and the wires
pub record Runs (m : ℕ) (list : List ℕ) (a b : Operand) (result wires : List ℕ) (verdict : Verdict) : Type 0 where
  pub exact : Exact (run_causes m list a b (length result) (length wires)) verdict
  pub results : Lent verdict (run_result verdict m list a b result) result (result_of (bytes_for m) m (read_list list m) a.bytes b.bytes)
  pub values : Lent verdict (run_wires verdict m list a b wires) wires (wires_of m (read_list list m) a.bytes b.bytes)

pub record CarriedCalls : Type 0 where
  pub zero : (m : ℕ) → Gives (bad_width m ∷ []) (zero_call m) m (zeroes carried_bytes m)
  pub one : (m : ℕ) → Gives (bad_width m ∷ []) (one_call m) m (ones carried_bytes m)
  pub turn : (a : Operand) (k : ℕ) → Gives (operand_causes a) (turn_call a k) a.width (turned a.width k a.bytes)
  pub square : (a : Operand) → Gives (operand_causes a) (square_call a) a.width (squared a.width a.bytes)
  pub sum : (a b : Operand) → Gives (pair_causes a b) (sum_call a b) a.width (added a.width a.bytes b.bytes)
  pub trace : (a : Operand) → Answers (operand_causes a) (trace_call a) (trace a.width a.bytes)
  pub solve : (c : Operand) → Gives (solve_causes c) (solve_call c) c.width (root c.width c.bytes)
  pub product : (m : ℕ) (table : List ℕ) (a b : Operand) →
      Gives (product_causes m table a b) (product_call m table a b) m (product m table a.bytes b.bytes)
  pub reduced : (m : ℕ) (table : List ℕ) (a b : Operand) →
      Gives (reduced_causes m table a b) (reduced_call m table a b) m (reduced m table a.bytes b.bytes)
  pub inverse : (m : ℕ) (table : List ℕ) (a : Operand) →
      Answers (inverse_causes m table a) (inverse_call m table a) (counted m (inverse m table a.bytes) (products_made m table a.bytes))
  pub run : (m : ℕ) (list : List ℕ) (a b : Operand) (result wires : List ℕ) →
      Runs m list a b result wires (judged (run_causes m list a b (length result) (length wires)))
