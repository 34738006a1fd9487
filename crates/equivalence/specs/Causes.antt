-- What accepting a list judges: its causes, in the order of document 02, (b). Those of widths, lengths, bits and rules stand in crate judging
-- (FaultTable), those of a list's words and gates that the runner judges too in crate runner.
use Rattle.std.specs.Prelude.{not, refl, List, [], ◌∷◌, ◌++◌, ℕ, ◌<◌, ltb}
use Rattle.gf2.specs.Sums.{every}
use Rattle.gf2.proofs.Decisions.{less-decides}
use Rattle.judging.specs.declared.fault.Fault.TheVariants.{List as Listed}
use Rattle.judging.specs.declared.fault.ListFault.TheVariants.{Size, Form, Output}
use Rattle.judging.specs.Causes.{Cause, from}
use Rattle.judging.specs.FaultTable.{bad_width, not_table, high_bit_in_row, rule_causes}
use Rattle.netlist.specs.Running.{gate_count}
use Rattle.netlist.specs.Judgements.{HasOtherGate, is_formed}
use Rattle.netlist.specs.Sets.{IsWrongOutput, is_right_output}
use Rattle.netlist.proofs.SetTests.{form-decides, output-decides}
use Rattle.runner.specs.Causes.{few_words, other_width, bad_words, bad_gates}

-- "Up to width 16"
abbrev pub most_width : ℕ
most_width = 16

-- "lists of at most 2,000 gates"
abbrev pub most_gates : ℕ
most_gates = 2000

-- 19: "width above 16"
abbrev pub too_wide : ℕ → Cause
too_wide m =
    record { Holds = most_width < m; test = ltb most_width m; exact = less-decides most_width m; fault = Listed Size; numbered = refl }

-- 19: "or more than 2,000 gates"
abbrev pub too_many_gates : List ℕ → Cause
too_many_gates list =
    record {
      Holds = most_gates < gate_count list;
      test = ltb most_gates (gate_count list);
      exact = less-decides most_gates (gate_count list);
      fault = Listed Size;
      numbered = refl;
    }

-- 20: "a gate outside that form"
abbrev pub other_gates : ℕ → List ℕ → Cause
other_gates m list =
    record {
      Holds = HasOtherGate m list;
      test = not (every (gate_count list) (is_formed m list));
      exact = form-decides m list;
      fault = Listed Form;
      numbered = refl;
    }

-- 21: "an output whose set is wrong"
abbrev pub wrong_output : ℕ → List ℕ → List ℕ → ℕ → Cause
wrong_output m table list r =
    record {
      Holds = IsWrongOutput m table list r;
      test = not (is_right_output m table list r);
      exact = output-decides m table list r;
      fault = Listed (Output r);
      numbered = refl;
    }

-- 1, then 2 of the table and of the list's words
abbrev pub size_causes : ℕ → List ℕ → List ℕ → List Cause
size_causes m table list = bad_width m ∷ not_table m table ∷ few_words list ∷ other_width m list ∷ bad_words m list ∷ []

-- 3 to 5: "The table is judged as for writing a list"
abbrev pub table_causes : ℕ → List ℕ → List Cause
table_causes m table = high_bit_in_row m table ∷ rule_causes m table

-- 19, "after 5"
abbrev pub limit_causes : ℕ → List ℕ → List Cause
limit_causes m list = too_wide m ∷ too_many_gates list ∷ []

-- 20, "after 18"
abbrev pub gate_causes : ℕ → List ℕ → List Cause
gate_causes m list = bad_gates m list ∷ other_gates m list ∷ []

-- 21: "least coordinate returned, last"
abbrev pub output_causes : ℕ → List ℕ → List ℕ → List Cause
output_causes m table list = from 0 m (λ r. wrong_output m table list r ∷ [])

abbrev pub accept_causes : ℕ → List ℕ → List ℕ → List Cause
accept_causes m table list =
    size_causes m table list ++ (table_causes m table ++ (limit_causes m list ++ (gate_causes m list ++ output_causes m table list)))
