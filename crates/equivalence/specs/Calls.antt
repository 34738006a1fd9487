-- What accepting a list answers, for every input. No buffer is lent.
use Rattle.std.specs.Prelude.{List, ℕ, Result}
use Rattle.judging.specs.declared.fault.Fault.{Fault}
use Rattle.judging.specs.Causes.{Verdict, judged, answered}
use Rattle.netlist.specs.declared.GateCounts.{GateCounts}
use Rattle.netlist.specs.Running.{read_list}
use Rattle.netlist.specs.Calls.{counts_of}
use Rattle.equivalence.specs.Causes.{accept_causes}

abbrev pub accept_verdict : ℕ → List ℕ → List ℕ → Verdict
accept_verdict m table list = judged (accept_causes m table list)

-- a fault, or "the numbers of kind 0 and of kind 1 gates among the g" of the list that is accepted
abbrev pub accept_call : ℕ → List ℕ → List ℕ → Result GateCounts Fault
accept_call m table list =
    answered (accept_verdict m table list) (counts_of (read_list list m))
