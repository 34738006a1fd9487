-- What each call answers, for every input: its counts, or its fault alone; and its buffers afterwards.
use Rattle.std.specs.Prelude.{List, [], ◌∷◌, ◌++◌, ℕ, length, drop, Result, Ok, is_ok}
use Rattle.gf2.specs.Operands.{choose}
use Rattle.judging.specs.declared.fault.Fault.{Fault}
use Rattle.judging.specs.Causes.{Cause, Verdict, judged, answered}
use Rattle.judging.specs.FaultTable.{too_short, symmetry_causes}
use Rattle.table.specs.Judgements.{symmetry_verdict}
use Rattle.netlist.specs.declared.GateCounts.{GateCounts}
use Rattle.netlist.specs.declared.AllCounts.{AllCounts}
use Rattle.netlist.specs.Gates.{Netlist, words, and_gates, xor_gates}
use Rattle.netlist.specs.Lists.{plain, reduced, common}

-- both counts
abbrev pub both : ℕ → ℕ → GateCounts
both ands xors = record { ands = record { 0 = ands }; xors = record { 0 = xors } }

-- those of a list: "the numbers of kind 0 and of kind 1 gates among the g"
abbrev pub counts_of : Netlist → GateCounts
counts_of list = both (and_gates list.gates) (xor_gates list.gates)

-- both counts, where there is no fault
abbrev pub counted_as : ℕ → ℕ → Result GateCounts Fault
counted_as ands xors = Ok (both ands xors)

-- "The same two counts can be had without writing the list. They are the numbers of kind 0 and of kind 1 gates among the g."
abbrev pub counts_call : ℕ → List ℕ → Netlist → Result GateCounts Fault
counts_call m table list = answered (symmetry_verdict m table) (counts_of list)

-- of each of the three lists
abbrev pub counts_plain_call : ℕ → List ℕ → Result GateCounts Fault
counts_plain_call m table = counts_call m table (plain m table)

abbrev pub counts_reduced_call : ℕ → List ℕ → Result GateCounts Fault
counts_reduced_call m table = counts_call m table (reduced m table)

abbrev pub counts_common_call : ℕ → List ℕ → Result GateCounts Fault
counts_common_call m table = counts_call m table (common m table)

-- of all three
abbrev pub all_counts_call : ℕ → List ℕ → Result AllCounts Fault
all_counts_call m table =
    answered (symmetry_verdict m table)
    (record { plain = counts_of (plain m table); reduced = counts_of (reduced m table); common = counts_of (common m table) })

-- "4 and 5 also for the .. gate lists"; 11 where the list is longer than the buffer
abbrev pub list_causes : ℕ → List ℕ → Netlist → List ℕ → List Cause
list_causes m table list old = symmetry_causes m table ++ (too_short (length old) (length (words m list)) ∷ [])

abbrev pub list_verdict : ℕ → List ℕ → Netlist → List ℕ → Verdict
list_verdict m table list old = judged (list_causes m table list old)

-- "AND gates and XOR gates are counted apart and both counts returned"
abbrev pub list_call : ℕ → List ℕ → Netlist → List ℕ → Result GateCounts Fault
list_call m table list old = answered (list_verdict m table list old) (counts_of list)

-- "Words after a written list .. stay"; on a fault the buffer as it was
abbrev pub list_buffer : ℕ → List ℕ → Netlist → List ℕ → List ℕ
list_buffer m table list old =
    choose
    (is_ok (list_verdict m table list old))
    (words m list ++ drop (length (words m list)) old)
    old
