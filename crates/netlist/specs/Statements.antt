-- What is proved of the three lists of a table: the statements alone, over the definitions that the contracts cite.
-- Computes: run on two operands, a list gives their product.
-- Counted: a list's gates by kind. Sized: the number of its words, and the most that they can be.
-- ListsHold: all of this for each of the three lists, under rules 4 and 5.
-- CountsHold: what the calls that count answer for a table that passes.
-- CommonCounts: an accepted table has at most one all-ones row, and so the common list's gates.
use Rattle.std.specs.Prelude.{◌≡◌, List, ℕ, ◌+◌, ◌-◌, ◌*◌, ◌<◌, ◌≤◌, length, get_or, Ok}
use Rattle.gf2.specs.Coordinates.{coord}
use Rattle.gf2.specs.Operands.{bytes_for, from_coords, ones}
use Rattle.gf2.specs.Tables.{IsTable, row, ones_in}
use Rattle.gf2.specs.Products.{product}
use Rattle.gf2.specs.Check.{Symmetric, Accepted}
use Rattle.table.specs.Judgements.{symmetry_verdict}
use Rattle.netlist.specs.Gates.{Netlist, words, and_gates, xor_gates}
use Rattle.netlist.specs.Lists.{plain, reduced, full_rows, common}
use Rattle.netlist.specs.Running.{value_on, wires, result}
use Rattle.netlist.specs.Counts.{list_ands, plain_xors, reduced_xors, common_xors}
use Rattle.netlist.specs.Calls.{counted_as, counts_plain_call, counts_reduced_call, counts_common_call}

-- "when run, each give the plain product of a and b": for operands of W bytes or more
pub record Computes (m : ℕ) (table : List ℕ) (list : Netlist) : Type 0 where
  -- the output wire for r has coordinate r of the product
  pub outputs : (a b : List ℕ) → m ≤ 8 * length a → (r : ℕ) → r < m →
      value_on (wires m list a b) (get_or list.outputs r 0) ≡ coord (product m table a b) r
  -- the result's bytes are the product's, in as many bytes as a has, and in any other number
  pub bytes : (a b : List ℕ) → m ≤ 8 * length a → result (length a) m list a b ≡ product m table a b
  pub resized : (n : ℕ) (a b : List ℕ) → m ≤ 8 * length a → result n m list a b ≡ from_coords n m (coord (product m table a b))

-- a list's gates by kind
pub record Counted (list : Netlist) (ands xors : ℕ) : Type 0 where
  pub and_count : and_gates list.gates ≡ ands
  pub xor_count : xor_gates list.gates ≡ xors

-- how many words a list has
pub record Sized (m : ℕ) (list : Netlist) : Type 0 where
  -- "the numbers of kind 0 and of kind 1 gates among the g"
  pub kinds : length list.gates ≡ and_gates list.gates + xor_gates list.gates
  -- "2+3g+m words": by the gates, and by the two counts
  pub by_gates : length (words m list) ≡ 2 + 3 * length list.gates + m
  pub by_counts : length (words m list) ≡ 2 + 3 * (and_gates list.gates + xor_gates list.gates) + m
  -- the most that they can be, by the width alone
  pub most_gates : length list.gates ≤ m * m * m
  pub most_words : length (words m list) ≤ 2 + 3 * (m * m * m) + m

pub record ListHolds (m : ℕ) (table : List ℕ) (list : Netlist) (xors : ℕ) : Type 0 where
  pub computes : Computes m table list
  pub counted : Counted list (list_ands m) xors
  pub sized : Sized m list

-- Under rules 4 and 5 each list gives the product, and has the gates that are counted without it.
pub record ListsHold (m : ℕ) (table : List ℕ) : Type 0 where
  pub of_plain : ListHolds m table (plain m table) (plain_xors m (ones_in m table))
  pub of_reduced : ListHolds m table (reduced m table) (reduced_xors m (ones_in m table))
  pub of_common : ListHolds m table (common m table) (common_xors m (ones_in m table) (full_rows m table))

abbrev pub TheoremLists : Type 0
TheoremLists = (m : ℕ) (table : List ℕ) → 2 ≤ m → IsTable m table → Symmetric m table → ListsHold m table

-- Where none of 1 to 5 is found, the calls that count give these numbers.
pub record CountsHold (m : ℕ) (table : List ℕ) : Type 0 where
  pub of_plain : counts_plain_call m table ≡ counted_as (list_ands m) (plain_xors m (ones_in m table))
  pub of_reduced : counts_reduced_call m table ≡ counted_as (list_ands m) (reduced_xors m (ones_in m table))
  pub of_common : counts_common_call m table ≡ counted_as (list_ands m) (common_xors m (ones_in m table) (full_rows m table))

abbrev pub TheoremCounts : Type 0
TheoremCounts = (m : ℕ) (table : List ℕ) → symmetry_verdict m table ≡ Ok tt → CountsHold m table

-- "if common m(C-m)+m-1 where a row is all ones, else m(C-1)"
pub record CommonCounts (m : ℕ) (table : List ℕ) : Type 0 where
  pub few_rows : full_rows m table ≤ 1
  pub with_row : (d : ℕ) → d < m → row m table d ≡ ones (bytes_for m) m →
      Counted (common m table) (m * m) (m * (ones_in m table - m) + m - 1)
  pub without : ((d : ℕ) → d < m → ¬ (row m table d ≡ ones (bytes_for m) m)) →
      Counted (common m table) (m * m) (m * (ones_in m table - 1))

abbrev pub TheoremCommon : Type 0
TheoremCommon = (m : ℕ) (table : List ℕ) → 2 ≤ m → IsTable m table → Accepted m table → CommonCounts m table
