-- Inner: the three lists by their method, and all numbers of a list in one answer. The writer's calls are told by them.
use Rattle.std.specs.Prelude.{List, ℕ, length, Result}
use Rattle.judging.specs.declared.fault.Fault.{Fault}
use Rattle.table.specs.Judgements.{symmetry_verdict}
use Rattle.judging.specs.Causes.{answered}
use Rattle.netlist.specs.declared.Tallied.{Tallied}
use Rattle.netlist.specs.Calls.{counts_of}
use Rattle.netlist.specs.declared.counts.Method.{Method}
use Rattle.netlist.specs.declared.counts.Method.TheVariants.{Plain, Reduced, Common}
use Rattle.netlist.specs.Gates.{Netlist}
use Rattle.netlist.specs.Lists.{plain, reduced, full_rows, common}
use Rattle.netlist.specs.Counts.{plain_xors, reduced_xors, common_xors, plain_gates, reduced_gates, common_gates}

abbrev pub list_by : Method → ℕ → List ℕ → Netlist
list_by Plain m table = plain m table
list_by Reduced m table = reduced m table
list_by Common m table = common m table

-- the all-ones rows, where their pairs are shared
abbrev pub shared_by : Method → ℕ → List ℕ → ℕ
shared_by Plain m table = 0
shared_by Reduced m table = 0
shared_by Common m table = full_rows m table

-- the XORs, and all gates, from m, C and these rows
abbrev pub xors_by : Method → ℕ → ℕ → ℕ → ℕ
xors_by Plain m ones q = plain_xors m ones
xors_by Reduced m ones q = reduced_xors m ones
xors_by Common m ones q = common_xors m ones q

abbrev pub gates_by : Method → ℕ → ℕ → ℕ → ℕ
gates_by Plain m ones q = plain_gates m ones
gates_by Reduced m ones q = reduced_gates m ones
gates_by Common m ones q = common_gates m ones q

-- all numbers of a list of a table
abbrev pub tallied : Method → ℕ → List ℕ → Tallied
tallied method m table =
    record { counts = counts_of (list_by method m table); gates = length (list_by method m table).gates; full = shared_by method m table }

abbrev pub tally_call : Method → ℕ → List ℕ → Result Tallied Fault
tally_call method m table = answered (symmetry_verdict m table) (tallied method m table)
