-- What is folded for each r, by the columns: the ones of a column, the pairs of a row, all pairs.
use Rattle.std.specs.Prelude.{Bool, true, false, ◌&&◌, List, ◌++◌, ℕ, ◌+◌, ◌-◌, ◌*◌, ◌/◌, ◌<◌, ◌≤◌, length, option_to_list}
use Rattle.gf2.specs.Operands.{minus}
use Rattle.limbs.specs.Limbs.{carried_limbs}
use Rattle.netlist.specs.Gates.{word_limit}
use Rattle.netlist.specs.Lists.{each, only}
use Rattle.list_folds.specs.declared.terms.Terms.{Terms}
use Rattle.list_folds.specs.TableFolds.{in_order, pair_wire, square_term}
use Rattle.list_folds.specs.Columns.{is_set}

-- the wire of the pair i, j is this and j
abbrev pub row_base : Bool → ℕ → ℕ → ℕ
row_base false m i = 2 * m + i * m
row_base true m i = 2 * m + m * m + i * (2 * m - i - 1) / 2 - i - 1

-- the pairs that the columns give for r
unfoldable pub picks : Bool → ℕ → List ℕ → ℕ → ℕ → ℕ → Bool
picks mixed m columns r i j = in_order mixed i j && is_set columns (minus m r i * carried_limbs) (minus m j i)

-- a run of bits of the column that starts at limb `at`: each of its ones is a wire and may give a gate, whose numbers are words
pub record Run (m : ℕ) (columns : List ℕ) (at from to start n : ℕ) : Type 0 where
  pub order : from ≤ to
  pub inside : to ≤ m
  pub room : at + carried_limbs ≤ length columns
  pub gates : 2 * m + n + (to - from) < word_limit
  pub wires : start + to < word_limit

-- the wires start + d of the d that pass, n of them looked at from `from` on
unfoldable pub run_terms : (ℕ → Bool) → ℕ → ℕ → ℕ → List ℕ
run_terms test start from n = each n (λ k. only (test (from + k)) (start + (from + k)))

unfoldable pub row_terms : Bool → ℕ → List ℕ → ℕ → ℕ → List ℕ
row_terms mixed m columns r i = each m (λ j. only (picks mixed m columns r i j) (pair_wire mixed m i j))

unfoldable pub rows_to : Bool → ℕ → List ℕ → ℕ → ℕ → List ℕ
rows_to mixed m columns r n = each n (row_terms mixed m columns r)

unfoldable pub fold_terms : Terms → ℕ → List ℕ → ℕ → List ℕ
fold_terms t m columns r =
    square_term t.mixed m r ++ rows_to t.mixed m columns r m ++ option_to_list t.last
