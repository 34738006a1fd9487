-- What is proved of accepting a list: the statements alone, over the definitions that the contracts cite.
-- TheoremAccepts: it accepts exactly the lists that give the product when they are run.
-- TheoremOwnLists: so the plain, the reduced and the common list of a table, where they are small enough.
use Rattle.std.specs.Prelude.{◌≡◌, ◌↔◌, List, ℕ, ◌+◌, ◌*◌, ◌≤◌, length, get_or, Ok}
use Rattle.gf2.specs.Operands.{bytes_for}
use Rattle.gf2.specs.Products.{product}
use Rattle.gf2.specs.Field.{Op}
use Rattle.table.specs.Judgements.{symmetry_verdict}
use Rattle.netlist.specs.Gates.{Netlist, words, and_gates, xor_gates}
use Rattle.netlist.specs.Lists.{plain, reduced, common}
use Rattle.netlist.specs.Running.{gate_count, read_list, result}
use Rattle.netlist.specs.Judgements.{HasBadGate, HasOtherGate}
use Rattle.netlist.specs.Calls.{counted_as}
use Rattle.equivalence.specs.Causes.{most_width, most_gates}
use Rattle.equivalence.specs.Calls.{accept_verdict, accept_call}

-- a list that can be run, "among lists of at most 2,000 gates where each AND takes one a wire and one b wire and each XOR takes earlier
-- gates", "up to width 16"
pub record Comparable (m : ℕ) (list : List ℕ) : Type 0 where
  pub narrow : m ≤ most_width
  pub few : gate_count list ≤ most_gates
  -- "Words of 32 bits: m; the number g of gates; g times (kind, left wire, right wire) ..; m output wires"
  pub width : get_or list 0 0 ≡ m
  pub size : length list ≡ 2 + 3 * gate_count list + m
  pub wired : ¬ HasBadGate m list
  pub formed : ¬ HasOtherGate m list

-- "whose run gives the product for all operands"
abbrev pub GivesProduct : ℕ → List ℕ → List ℕ → Type 0
GivesProduct m table list = (a b : List ℕ) → Op m a → Op m b → result (bytes_for m) m (read_list list m) a b ≡ product m table a b

-- "Under a table not refused, and among lists .., it accepts exactly those whose run gives the product for all operands."
abbrev pub TheoremAccepts : Type 0
TheoremAccepts = (m : ℕ) (table list : List ℕ) → symmetry_verdict m table ≡ Ok tt → Comparable m list →
    (accept_verdict m table list ≡ Ok tt) ↔ GivesProduct m table list

-- the words of a list with at most 2,000 gates are accepted, and its gates counted
abbrev pub IsAccepted : ℕ → List ℕ → Netlist → Type 0
IsAccepted m table list = length list.gates ≤ most_gates →
    accept_call m table (words m list) ≡ counted_as (and_gates list.gates) (xor_gates list.gates)

pub record OwnLists (m : ℕ) (table : List ℕ) : Type 0 where
  pub of_plain : IsAccepted m table (plain m table)
  pub of_reduced : IsAccepted m table (reduced m table)
  pub of_common : IsAccepted m table (common m table)

abbrev pub TheoremOwnLists : Type 0
TheoremOwnLists = (m : ℕ) (table : List ℕ) → symmetry_verdict m table ≡ Ok tt → m ≤ most_width → OwnLists m table
