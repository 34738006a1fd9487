-- Inner definitions, of which only inner functions speak: rows as carried operands, their sums, rules 5 and 6 as tests. No demand cites them.
use Rattle.std.specs.Prelude.{Bool, List, ◌≡◌, ℕ, ◌+◌, ◌-◌, ◌*◌, ◌/◌, ◌%◌, ◌^◌, ◌<◌, ◌≤◌, get_or}
use Rattle.gf2.specs.Sums.{sum}
use Rattle.gf2.specs.Coordinates.{coord}
use Rattle.gf2.specs.Operands.{carried_bytes, carried_by, from_coords, turned, same}
use Rattle.gf2.specs.Tables.{row, basis}
use Rattle.gf2.specs.Products.{product}
use Rattle.limbs.specs.Limbs.{limb_coord}

-- "A table is m rows, each an operand of W bytes": row d, carried
abbrev pub carried_row : ℕ → List ℕ → ℕ → List ℕ
carried_row m table d = carried_by (row m table d)

-- "Row d holds the coordinates of β0·βd": the sum of the rows at the ones of x, carried, which is β0·x
unfoldable pub rows_at : ℕ → List ℕ → List ℕ → List ℕ
rows_at m table x = from_coords carried_bytes m (λ s. sum m (λ k. coord x k * coord (row m table k) s))

-- coordinate s of the sum of the rows at the ones of a limb, whose bits stand for the rows from `from` on
abbrev pub limb_rows : ℕ → List ℕ → ℕ → ℕ → ℕ → ℕ
limb_rows m table limb from s = sum 64 (λ b. limb / 2 ^ b % 2 * coord (row m table (from + b)) s)

-- limbs have, below m, the coordinates f 0, f 1, .., each modulo 2
abbrev pub Below : ℕ → (ℕ → ℕ) → List ℕ → Type 0
Below m f x = (s : ℕ) → s < m → limb_coord x s ≡ f s % 2

-- "bits at m and above are 0", of limbs of 64 bits
pub record ClearLimbs (m : ℕ) (x : List ℕ) : Type 0 where
  pub fits : (w : ℕ) → get_or x w 0 < 2 ^ 64
  pub bits : (i : ℕ) → m ≤ i → limb_coord x i ≡ 0

-- "row d equals row m-d turned d places"
unfoldable pub mirrors : ℕ → List ℕ → ℕ → Bool
mirrors m table d = same (row m table d) (turned m d (row m table (m - d)))

-- "(β0·βi)·βj"
unfoldable pub left_product : ℕ → List ℕ → ℕ → ℕ → List ℕ
left_product m table i j = product m table (product m table (basis m 0) (basis m i)) (basis m j)

-- "β0·(βi·βj)"
unfoldable pub right_product : ℕ → List ℕ → ℕ → ℕ → List ℕ
right_product m table i j = product m table (basis m 0) (product m table (basis m i) (basis m j))

-- "(β0·βi)·βj = β0·(βi·βj)"
unfoldable pub associates : ℕ → List ℕ → ℕ → ℕ → Bool
associates m table i j = same (left_product m table i j) (right_product m table i j)
