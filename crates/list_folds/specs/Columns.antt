-- The columns of a table as limbs of 64 bits: column s has bit d where row d has coordinate s. From them the next term is read.
use Rattle.std.specs.Prelude.{◌≡◌, Bool, true, false, List, ℕ, ◌+◌, ◌*◌, ◌<◌, ◌≤◌, length, get_or, eqb}
use Rattle.gf2.specs.Operands.{max_width}
use Rattle.limbs.specs.Limbs.{carried_limbs, limb_coord}
use Rattle.list_folds.specs.declared.columns.Rows.{Rows}
use Rattle.list_folds.specs.TableFolds.{kept_bit}

-- bit d of the column that starts at limb `at`
abbrev pub bit_from : List ℕ → ℕ → ℕ → ℕ
bit_from columns at d = limb_coord columns (64 * at + d)

abbrev pub is_set : List ℕ → ℕ → ℕ → Bool
is_set columns at d = eqb (bit_from columns at d) 1

-- limbs for m columns
pub record Room (m : ℕ) (columns : List ℕ) : Type 0 where
  pub least : 2 ≤ m
  pub greatest : m ≤ max_width
  pub room : m * carried_limbs ≤ length columns

-- the columns have the rows before n, and no others
pub record Columns (rows : Rows) (m : ℕ) (table : List ℕ) (n : ℕ) (columns : List ℕ) : Type 0 where
  pub room : Room m columns
  pub kept : (s d : ℕ) → s < m → d < m → d < n → bit_from columns (s * carried_limbs) d ≡ kept_bit rows m table d s
  pub blank : (s d : ℕ) → s < m → d < m → n ≤ d → bit_from columns (s * carried_limbs) d ≡ 0

-- n is the least number from `from` on that passes the test, or `to` if none before does
pub record Successor (test : ℕ → Bool) (to from n : ℕ) : Type 0 where
  pub least : from ≤ n
  pub most : n ≤ to
  pub none : (k : ℕ) → from ≤ k → k < n → test k ≡ false
  pub found : n < to → test n ≡ true

-- n is the first one from bit `from` on, in any column, or their end
abbrev pub FirstFrom : List ℕ → ℕ → ℕ → Type 0
FirstFrom columns from n = Successor (is_set columns 0) (64 * length columns) from n

-- for each limb from limb k on the first one of those after it, in any column, or their end
pub record Firsts (columns : List ℕ) (k : ℕ) (firsts : List ℕ) : Type 0 where
  pub size : length columns ≤ length firsts
  pub first : (j : ℕ) → k ≤ j → j < length columns → FirstFrom columns (64 * (j + 1)) (get_or firsts j 0)

-- columns that the folds of width m read
pub record Readable (m : ℕ) (columns firsts : List ℕ) : Type 0 where
  pub room : Room m columns
  pub after : Firsts columns 0 firsts
