-- A row of a table as limbs of 64 bits, and where its ones are.
use Rattle.std.specs.Prelude.{ℕ, zero, suc, ◌+◌, ◌-◌, ◌*◌, ◌&&◌, List, ◌==◌, nat_le, nat_lt}
use Rattle.gf2.specs.Coordinates.{coord}
use Rattle.gf2.specs.Operands.{max_width, choose}
use Rattle.gf2.specs.Tables.{row}
use Rattle.limbs.specs.Limbs.{carried_limbs, limb_coord, pack_limbs}

-- the first of start, start + 1, .., `count` of them, where f isn't 0; start + count where there is none
unfoldable pub first_one : (ℕ → ℕ) → ℕ → ℕ → ℕ
first_one f start zero = start
first_one f start (suc count) = choose (f start == 0) (first_one f (start + 1) count) start

-- the first place from `from` on that is 1; where there is none, the place after the last, or `from` where that is greater
abbrev pub next_one : List ℕ → ℕ → ℕ
next_one x from = first_one (limb_coord x) from (64 * carried_limbs - from)

-- row d of any table of width m; 0 where there is no row d, or m is no width
unfoldable pub row_limbs : ℕ → List ℕ → ℕ → List ℕ
row_limbs m table d = pack_limbs carried_limbs (choose (nat_lt d m && nat_le m max_width) (coord (row m table d)) (λ i. 0))
