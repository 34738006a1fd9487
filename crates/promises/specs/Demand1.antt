-- Demand 1: every call of the C interface, every call on carried operands, and the report program. Each definition named here is the one
-- that the contract of the call names, the list of causes among them. Answers has what a call's answer and its buffers are, CarriedCalls and
-- Reports the records of the other two.
use Rattle.std.specs.Prelude.{◌≡◌, List, ◌++◌, ℕ, length, drop, Result, Err}
use Rattle.gf2.specs.Operands.{bytes_for, zeroes, ones as one_operand, added, turned}
use Rattle.gf2.specs.Quadratic.{trace, root}
use Rattle.gf2.specs.Tables.{ones_in}
use Rattle.gf2.specs.Products.{product, reduced}
use Rattle.gf2.specs.Inverse.{inverse, products_made}
use Rattle.judging.specs.declared.fault.Fault.{Fault}
use Rattle.judging.specs.Causes.{judged, verdict_of}
use Rattle.judging.specs.FaultTable.{shape_causes, symmetry_causes, check_causes}
use Rattle.operand.specs.Causes.{bytes_causes, constant_causes, turn_bytes_causes, sum_bytes_causes, solve_bytes_causes}
use Rattle.operand.specs.Calls.{zero_into, one_into, turn_into, sum_into, solve_into}
use Rattle.product.specs.Causes.{product_bytes_causes, reduced_bytes_causes, inverse_bytes_causes}
use Rattle.product.specs.Calls.{product_into, reduced_into, inverse_into}
use Rattle.netlist.specs.Gates.{Netlist, words, and_gates, xor_gates}
use Rattle.netlist.specs.Lists.{plain, reduced as reduced_list, common}
use Rattle.netlist.specs.Running.{read_list, wires as wires_of, result as result_of}
use Rattle.netlist.specs.Calls.{counts_plain_call, counts_reduced_call, counts_common_call, list_causes, list_call, list_buffer}
use Rattle.netlist.specs.declared.GateCounts.{GateCounts}
use Rattle.runner.specs.Causes.{run_bytes_causes}
use Rattle.equivalence.specs.Causes.{accept_causes}
use Rattle.equivalence.specs.Calls.{accept_call}
use Rattle.gaussian.specs.Types.{type_of}
use Rattle.gaussian.specs.Table.{drawn}
use Rattle.gaussian.specs.Causes.{type_causes, draw_causes}
use Rattle.gaussian.specs.Calls.{type_call, draw_call, drawn_into}
use Rattle.card.specs.Cards.{card}
use Rattle.card.specs.Calls.{in_front, read_call, read_table}
use Rattle.card.specs.Statements.{Bytes}
use Rattle.card_writer.specs.Calls.{write_causes, write_call, write_card}
use Rattle.nb.specs.Packing.{Unpacks}
use Rattle.nb.specs.Calls.{fault_answer, ones_answer, trace_answer, inverse_answer, counts_answer, ran_result, ran_wires, type_answer, card_answer}
use Rattle.promises.specs.CardCauses.{GoodCard, ExactCard}
use Rattle.promises.specs.Answers.{Refuses, Lent, Asks, Fills}
use Rattle.promises.specs.CarriedCalls.{CarriedCalls}
use Rattle.promises.specs.Reports.{Reports}

-- the counts of a list without the list: "They are the numbers of kind 0 and of kind 1 gates among the g"
abbrev pub Counts : ℕ → List ℕ → Netlist → Result GateCounts Fault → Type 0
Counts m table list reported =
    Asks (symmetry_causes m table) (counts_answer reported) (and_gates list.gates) (xor_gates list.gates)

-- a written list: its words in front, "Limbs after a written list .. stay"
abbrev pub Lists : ℕ → List ℕ → Netlist → List ℕ → Type 0
Lists m table list old =
    Fills
    (list_causes m table list old)
    (counts_answer (list_call m table list old))
    (and_gates list.gates)
    (xor_gates list.gates)
    (list_buffer m table list old)
    old
    (words m list ++ drop (length (words m list)) old)

-- reading a card s into a lent table that holds `old`: "Reading fills the first m·W bytes of the lent table", "returns m"
pub record Reads (s old : List ℕ) : Type 0 where
  pub exact : ExactCard (length old) s (verdict_of (read_call s old))
  pub number : (f : Fault) → read_call s old ≡ Err f → Refuses (card_answer (read_call s old)) f
  pub kept : (f : Fault) → read_call s old ≡ Err f → read_table s old ≡ old
  pub answered : (m : ℕ) (table : List ℕ) → GoodCard (length old) s m table → Unpacks (card_answer (read_call s old)) 0 m 0
  pub filled : (m : ℕ) (table : List ℕ) → GoodCard (length old) s m table → read_table s old ≡ in_front table old

-- "A table, operand, card or gate list handed in is answered for every content and length": each call on any widths and lists
pub record Demand1 : Type 0 where
  -- tables
  pub check : (m : ℕ) (table : List ℕ) → Asks (check_causes m table) (fault_answer (check_causes m table)) 0 0
  pub ones : (m : ℕ) (table : List ℕ) → Asks (shape_causes m table) (ones_answer m table) (ones_in m table) 0
  -- products and the inverse
  pub product : (m : ℕ) (table a b old : List ℕ) →
      Fills (product_bytes_causes m table a b old) (fault_answer (product_bytes_causes m table a b old)) 0 0
      (product_into m table a b old) old (product m table a b)
  pub reduced : (m : ℕ) (table a b old : List ℕ) →
      Fills (reduced_bytes_causes m table a b old) (fault_answer (reduced_bytes_causes m table a b old)) 0 0
      (reduced_into m table a b old) old (reduced m table a b)
  pub inverse : (m : ℕ) (table a old : List ℕ) →
      Fills (inverse_bytes_causes m table a old) (inverse_answer m table a old) (products_made m table a) 0
      (inverse_into m table a old) old (inverse m table a)
  -- operands
  pub zero : (m : ℕ) (old : List ℕ) →
      Fills (constant_causes m old) (fault_answer (constant_causes m old)) 0 0 (zero_into m old) old (zeroes (bytes_for m) m)
  pub one : (m : ℕ) (old : List ℕ) →
      Fills (constant_causes m old) (fault_answer (constant_causes m old)) 0 0 (one_into m old) old (one_operand (bytes_for m) m)
  pub turn : (m : ℕ) (a : List ℕ) (k : ℕ) (old : List ℕ) →
      Fills (turn_bytes_causes m a old) (fault_answer (turn_bytes_causes m a old)) 0 0 (turn_into m a k old) old (turned m k a)
  pub sum : (m : ℕ) (a b old : List ℕ) →
      Fills (sum_bytes_causes m a b old) (fault_answer (sum_bytes_causes m a b old)) 0 0 (sum_into m a b old) old (added m a b)
  pub trace : (m : ℕ) (a : List ℕ) → Asks (bytes_causes m a) (trace_answer m a) (trace m a) 0
  pub solve : (m : ℕ) (c old : List ℕ) →
      Fills (solve_bytes_causes m c old) (fault_answer (solve_bytes_causes m c old)) 0 0 (solve_into m c old) old (root m c)
  -- counts of gates, and gate lists
  pub counts_plain : (m : ℕ) (table : List ℕ) → Counts m table (plain m table) (counts_plain_call m table)
  pub counts_reduced : (m : ℕ) (table : List ℕ) → Counts m table (reduced_list m table) (counts_reduced_call m table)
  pub counts_common : (m : ℕ) (table : List ℕ) → Counts m table (common m table) (counts_common_call m table)
  pub list_plain : (m : ℕ) (table old : List ℕ) → Lists m table (plain m table) old
  pub list_reduced : (m : ℕ) (table old : List ℕ) → Lists m table (reduced_list m table) old
  pub list_common : (m : ℕ) (table old : List ℕ) → Lists m table (common m table) old
  pub run : (m : ℕ) (list a b result wires : List ℕ) →
      Fills (run_bytes_causes m list a b result wires) (fault_answer (run_bytes_causes m list a b result wires)) 0 0
      (ran_result m list a b result wires) result (result_of (bytes_for m) m (read_list list m) a b)
  pub runs_wires : (m : ℕ) (list a b result wires : List ℕ) →
      Lent (judged (run_bytes_causes m list a b result wires)) (ran_wires m list a b result wires) wires (wires_of m (read_list list m) a b)
  -- a gate list from elsewhere
  pub accept : (m : ℕ) (table list : List ℕ) →
      Asks (accept_causes m table list) (counts_answer (accept_call m table list))
      (and_gates (read_list list m).gates) (xor_gates (read_list list m).gates)
  -- Gaussian tables
  pub typed : (m : ℕ) → Asks (type_causes m) (type_answer (type_call m)) (type_of m) 0
  pub draw : (m : ℕ) (old : List ℕ) →
      Fills (draw_causes m (length old)) (type_answer (draw_call m (length old))) (type_of m) 0
      (drawn_into m old) old (drawn m (type_of m))
  -- cards
  pub card_write : (m : ℕ) (table old : List ℕ) →
      Fills (write_causes m table (length old)) (card_answer (write_call m table old)) (length (card m table)) 0
      (write_card m table old) old (in_front (card m table) old)
  pub card_read : (s old : List ℕ) → Bytes s → Reads s old
  -- the same calls on operands that are carried by value
  pub carried : CarriedCalls
  -- the report program
  pub report : (s : List ℕ) → Bytes s → Reports s
