-- Document 02, (b), over the calls of the C interface: which gate lists nb_accept accepts. Its causes, number by number, stand in demand 1.
use Rattle.std.specs.Prelude.{◌≡◌, ◌↔◌, List, ℕ, ◌+◌, ◌*◌, ◌≤◌, length, Ok}
use Rattle.gf2.specs.Operands.{bytes_for}
use Rattle.gf2.specs.Field.{Op}
use Rattle.judging.specs.Causes.{judged}
use Rattle.table.specs.Judgements.{symmetry_verdict}
use Rattle.product.specs.Calls.{product_into}
use Rattle.netlist.specs.Running.{gate_count}
use Rattle.runner.specs.Causes.{run_bytes_causes}
use Rattle.equivalence.specs.Causes.{most_width}
use Rattle.equivalence.specs.Calls.{accept_verdict}
use Rattle.equivalence.specs.Statements.{Comparable, OwnLists}
use Rattle.nb.specs.Calls.{ran_result}

-- nb_run of a list on two operands, with a result of W bytes and a byte for each wire: no fault, and the bytes of nb_product
pub record RunsToProduct (m : ℕ) (table list a b old lent : List ℕ) : Type 0 where
  pub no_fault : judged (run_bytes_causes m list a b old lent) ≡ Ok tt
  pub value : ran_result m list a b old lent ≡ product_into m table a b old

-- "whose run gives the product for all operands"
abbrev pub RunsToAllProducts : ℕ → List ℕ → List ℕ → Type 0
RunsToAllProducts m table list = (a b old lent : List ℕ) → Op m a → Op m b → length old ≡ bytes_for m →
    length lent ≡ 2 * m + gate_count list → RunsToProduct m table list a b old lent

pub record Acceptance : Type 0 where
  -- "Under a table not refused, and among lists of at most 2,000 gates where each AND takes one a wire and one b wire and each XOR takes
  -- earlier gates, it accepts exactly those whose run gives the product for all operands."
  pub exactly : (m : ℕ) (table list : List ℕ) → symmetry_verdict m table ≡ Ok tt → Comparable m list →
      (accept_verdict m table list ≡ Ok tt) ↔ RunsToAllProducts m table list
  -- so the lists that nb_list_plain, nb_list_reduced and nb_list_common write, where they have at most 2,000 gates
  pub own : (m : ℕ) (table : List ℕ) → symmetry_verdict m table ≡ Ok tt → m ≤ most_width → OwnLists m table
