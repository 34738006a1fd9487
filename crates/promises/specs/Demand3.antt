-- Demand 3, sentence by sentence. Operands are those of the C interface, W bytes, and each definition named here is one that a call's
-- contract names: `check_verdict` that of nb_check; `product_into`, `reduced_into`, `inverse_into` and the causes `.._bytes_causes` those of
-- the products and the inverse, `products_made` the count; `plain`, `reduced_list`, `common`, `words`, `list_buffer` those of the writers;
-- `ran_result`, `ran_wires` those of the runner; `counts_plain_call` and its like those of the counts.
use Rattle.std.specs.Prelude.{◌≡◌, ◌↔◌, List, ℕ, ◌+◌, ◌-◌, ◌*◌, ◌^◌, ◌<◌, ◌≤◌, length, take, Result, Ok}
use Rattle.gf2.specs.Operands.{bytes_for, zeroes, ones}
use Rattle.gf2.specs.Tables.{row, ones_in}
use Rattle.gf2.specs.Products.{product}
use Rattle.gf2.specs.Field.{Op, IsUnit, Field, Squares}
use Rattle.gf2.specs.Inverse.{log2, binary_ones, products_made}
use Rattle.table.specs.Rows.{Shaped}
use Rattle.table.specs.Judgements.{check_verdict}
use Rattle.netlist.specs.declared.GateCounts.{GateCounts}
use Rattle.judging.specs.declared.fault.Fault.{Fault}
use Rattle.netlist.specs.Gates.{Netlist, words, and_gates, xor_gates}
use Rattle.netlist.specs.Lists.{plain, reduced as reduced_list, common}
use Rattle.netlist.specs.Running.{wires}
use Rattle.netlist.specs.Calls.{counted_as, counts_plain_call, counts_reduced_call, counts_common_call, list_verdict, list_buffer}
use Rattle.judging.specs.Causes.{judged}
use Rattle.product.specs.Causes.{product_bytes_causes, reduced_bytes_causes, inverse_bytes_causes}
use Rattle.product.specs.Calls.{product_into, reduced_into, inverse_into}
use Rattle.runner.specs.Causes.{run_bytes_causes}
use Rattle.nb.specs.Calls.{ran_result, ran_wires}

-- nb_product of two operands into a result of W bytes: no fault, and the plain product
pub record Multiplies (m : ℕ) (table a b old : List ℕ) : Type 0 where
  pub no_fault : judged (product_bytes_causes m table a b old) ≡ Ok tt
  pub value : product_into m table a b old ≡ product m table a b

-- nb_product_reduced of the same: no fault, and the bytes of nb_product
pub record Reduces (m : ℕ) (table a b old : List ℕ) : Type 0 where
  pub no_fault : judged (reduced_bytes_causes m table a b old) ≡ Ok tt
  pub value : reduced_into m table a b old ≡ product_into m table a b old

-- the words that nb_list_.. wrote in front of the lent buffer `out`
abbrev pub words_written : ℕ → List ℕ → Netlist → List ℕ → List ℕ
words_written m table list out = take (length (words m list)) (list_buffer m table list out)

-- nb_run on these words and two operands, with a result of W bytes and a byte for each wire: no fault, every wire's value, and the
-- bytes of nb_product
pub record Runs (m : ℕ) (table : List ℕ) (list : Netlist) (out a b old lent : List ℕ) : Type 0 where
  pub no_fault : judged (run_bytes_causes m (words_written m table list out) a b old lent) ≡ Ok tt
  pub value : ran_result m (words_written m table list out) a b old lent ≡ product_into m table a b old
  pub wire : ran_wires m (words_written m table list out) a b old lent ≡ wires m list a b

-- a list is written, by nb_list_.., wherever it has room, and gives the product of any two operands when it is run
pub record RunsToProduct (m : ℕ) (table : List ℕ) (list : Netlist) : Type 0 where
  pub is_written : (out : List ℕ) → length (words m list) ≤ length out →
      (list_verdict m table list out ≡ Ok tt) × (words_written m table list out ≡ words m list)
  pub runs : (out a b old lent : List ℕ) → length (words m list) ≤ length out → Op m a → Op m b → length old ≡ bytes_for m →
      length lent ≡ 2 * m + length list.gates → Runs m table list out a b old lent

-- nb_inverse of an operand: no fault, and an operand that times it is one
pub record Inverts (m : ℕ) (table a old : List ℕ) : Type 0 where
  pub no_fault : judged (inverse_bytes_causes m table a old) ≡ Ok tt
  pub operand : Op m (inverse_into m table a old)
  pub value : product m table (inverse_into m table a old) a ≡ ones (bytes_for m) m

-- the gates that a list holds, and those that its counts report
pub record HasGates (list : Netlist) (reported : Result GateCounts Fault) (ands xors : ℕ) : Type 0 where
  pub holds_ands : and_gates list.gates ≡ ands
  pub holds_xors : xor_gates list.gates ≡ xors
  pub reports : reported ≡ counted_as ands xors

-- a row is all ones
abbrev pub FullRow : ℕ → List ℕ → ℕ → Type 0
FullRow m table d = row m table d ≡ ones (bytes_for m) m

-- l is floor(log2 n)
abbrev pub IsLog2 : ℕ → ℕ → Type 0
IsLog2 n l = (2 ^ l ≤ n) × (n < 2 ^ (l + 1))

-- What holds under an accepted table.
pub record UnderAccepted (m : ℕ) (table : List ℕ) : Type 0 where
  -- the plain product of any two operands is given,
  pub plain_product : (a b old : List ℕ) → Op m a → Op m b → length old ≡ bytes_for m → Multiplies m table a b old
  -- "whatever the operands a and b, the reduced product .. give the plain product of a and b"
  pub reduced_product : (a b old : List ℕ) → Op m a → Op m b → length old ≡ bytes_for m → Reduces m table a b old
  -- "and the plain, reduced and common gate lists, gate by gate those of document 01, when run, each give the plain product"
  pub plain_run : RunsToProduct m table (plain m table)
  pub reduced_run : RunsToProduct m table (reduced_list m table)
  pub common_run : RunsToProduct m table (common m table)
  -- "one is the operand with all m coordinates 1": it is the field's neutral operand
  pub unit : IsUnit m table (ones (bytes_for m) m)
  -- "Whichever operand but zero is handed in under such a table, the inverse returned times it is one,"
  pub inverts : (a old : List ℕ) → Op m a → ¬ (a ≡ zeroes (bytes_for m) m) → length old ≡ bytes_for m → Inverts m table a old
  -- "no other operand times it is one,"
  pub only : (a b old : List ℕ) → Op m a → ¬ (a ≡ zeroes (bytes_for m) m) → length old ≡ bytes_for m → Op m b →
      product m table b a ≡ ones (bytes_for m) m → b ≡ inverse_into m table a old
  -- "and the returned count of products made .. is floor(log2(m-1)) + (ones in m-1 in binary) - 1"
  pub logarithm : IsLog2 (m - 1) (log2 (m - 1))
  pub count : (a : List ℕ) → products_made m table a ≡ log2 (m - 1) + binary_ones (m - 1) - 1
  -- C is large enough for every difference below
  pub many_ones : 2 * m - 1 ≤ ones_in m table
  -- "With C ones in such a table, each of these lists holds, and its counts report, m² AND gates, and XOR gates m(C-1) if plain,"
  pub plain_gates : HasGates (plain m table) (counts_plain_call m table) (m * m) (m * (ones_in m table - 1))
  -- "m(C+m-2)/2 if reduced," which is a whole number
  pub reduced_gates : (xors : ℕ) × (2 * xors ≡ m * (ones_in m table + m - 2)) × HasGates (reduced_list m table) (counts_reduced_call m table) (m * m) xors
  -- "and if common m(C-m)+m-1 where a row is all ones,"
  pub common_gates : (d : ℕ) → d < m → FullRow m table d →
      HasGates (common m table) (counts_common_call m table) (m * m) (m * (ones_in m table - m) + m - 1)
  -- "else m(C-1)"
  pub other_gates : ((d : ℕ) → d < m → ¬ FullRow m table d) →
      HasGates (common m table) (counts_common_call m table) (m * m) (m * (ones_in m table - 1))

pub record Demand3 : Type 0 where
  -- "For every table of every width m from 2 to 571, the check accepts it exactly when the operands .. form a field in which each operand
  -- times itself is that operand turned one place": of every number m and every list of numbers, tables (`Shaped`) or not
  pub check : (m : ℕ) (table : List ℕ) → (check_verdict m table ≡ Ok tt) ↔ (Shaped m table × Field m table × Squares m table)
  -- "Under every accepted table .."
  pub accepted : (m : ℕ) (table : List ℕ) → check_verdict m table ≡ Ok tt → UnderAccepted m table
