-- What each call of the C interface answers, for every input: its fault packed with what it returns. What a call leaves in the lent buffers is
-- what the call below leaves: zero_into .. solve_into of crate operand, product_into .. of product, those of runner, gaussian, card and list_writer.
use Rattle.std.specs.Prelude.{List, ℕ, Result}
use Rattle.judging.specs.Causes.{Cause, judged}
use Rattle.operand.specs.Calls.{trace_of}
use Rattle.table.specs.Calls.{ones_call}
use Rattle.product.specs.Calls.{inverse_count}
use Rattle.judging.specs.declared.fault.Fault.{Fault}
use Rattle.netlist.specs.declared.GateCounts.{GateCounts}
use Rattle.runner.specs.Causes.{run_bytes_causes}
use Rattle.runner.specs.Calls.{run_bytes_result, run_bytes_wires}
use Rattle.nb.specs.Packing.{packed_verdict, packed_value, packed_counts}

-- a call that returns nothing beside its fault: nb_check, with 5 "number, least d", with 6 "number, i, j"; nb_zero, nb_one, nb_turn, nb_sum,
-- nb_solve, nb_product, nb_product_reduced and nb_run
abbrev pub fault_answer : List Cause → ℕ
fault_answer causes = packed_verdict (judged causes)

-- nb_ones: "C is the number of ones in the table"
abbrev pub ones_answer : ℕ → List ℕ → ℕ
ones_answer m table = packed_value (ones_call m table)

-- nb_trace: "The trace is the sum of coordinates modulo 2"
abbrev pub trace_answer : ℕ → List ℕ → ℕ
trace_answer m a = packed_value (trace_of m a)

-- nb_inverse: "the result carries the last count as the number of products made"
abbrev pub inverse_answer : ℕ → List ℕ → List ℕ → List ℕ → ℕ
inverse_answer m table a old = packed_value (inverse_count m table a old)

-- nb_counts_.. and nb_list_..: "AND gates and XOR gates are counted apart and both counts returned"; nb_accept, those of the list handed in
abbrev pub counts_answer : Result GateCounts Fault → ℕ
counts_answer r = packed_counts r

-- nb_run: what is left in the result and in the wires
abbrev pub ran_result : ℕ → List ℕ → List ℕ → List ℕ → List ℕ → List ℕ → List ℕ
ran_result m list a b result wires = run_bytes_result (judged (run_bytes_causes m list a b result wires)) m list a b result

abbrev pub ran_wires : ℕ → List ℕ → List ℕ → List ℕ → List ℕ → List ℕ → List ℕ
ran_wires m list a b result wires = run_bytes_wires (judged (run_bytes_causes m list a b result wires)) m list a b wires

-- nb_type and nb_draw: "drawing a table returns its type T"
abbrev pub type_answer : Result ℕ Fault → ℕ
type_answer r = packed_value r

-- nb_card_write and nb_card_read: "Writing a card returns its length in bytes, reading one returns m"
abbrev pub card_answer : Result ℕ Fault → ℕ
card_answer r = packed_value r
