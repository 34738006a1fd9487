-- The table of the Gaussian normal basis of width m and type T; p is T·m+1. Any m and T will do, types or not.
use Rattle.std.specs.Prelude.{Bool, false, ◌&&◌, ◌||◌, List, [], ◌++◌, ℕ, zero, suc, ◌+◌, ◌*◌, ◌%◌, ◌^◌, eqb}
use Rattle.gf2.specs.Sums.{sum}
use Rattle.gf2.specs.Operands.{bytes_for, choose, from_coords}
use Rattle.gaussian.specs.Types.{modulus}

-- one of test 0, test 1, .., test (n - 1) is true
unfoldable pub some : ℕ → (ℕ → Bool) → Bool
some zero test = false
some (suc n) test = some n test || test n

-- "K is the set of u with u^T = 1 modulo p"
unfoldable pub in_k : ℕ → ℕ → ℕ → Bool
in_k p t u = eqb (u ^ t % p) 1

-- x "lies in 2^s·K": it is 2^s·u modulo p for some u in K
unfoldable pub in_coset : ℕ → ℕ → ℕ → ℕ → Bool
in_coset p t s x = some p (λ u. in_k p t u && eqb (2 ^ s * u % p) x)

-- coordinate s of what x = 1 + 2^d·w modulo p gives: "βs where 1 + 2^d·w lies in 2^s·K";
-- "a w with 1 + 2^d·w = 0 modulo p gives all ones if T is odd and nothing if even"
unfoldable pub gives : ℕ → ℕ → ℕ → ℕ → ℕ
gives p t x s = choose (eqb x 0) (t % 2) (choose (in_coset p t s x) 1 0)

-- what w adds to coordinate s of row d, if it is in K
unfoldable pub term : ℕ → ℕ → ℕ → ℕ → ℕ → ℕ
term p t w d s = choose (in_k p t w) (gives p t ((1 + 2 ^ d * w) % p) s) 0

-- "Row d is the sum over w in K of βs where ..": its coordinate s
unfoldable pub row_coord : ℕ → ℕ → ℕ → ℕ → ℕ
row_coord p t d s = sum p (λ w. term p t w d s)

-- "A table is m rows, each an operand of W bytes": its first n rows, f d s being coordinate s of row d
unfoldable pub rows_of : ℕ → ℕ → (ℕ → ℕ → ℕ) → List ℕ
rows_of m zero f = []
rows_of m (suc n) f = rows_of m n f ++ from_coords (bytes_for m) m (f n)

-- the table of width m and type T, "m·W in all"
unfoldable pub drawn : ℕ → ℕ → List ℕ
drawn m t = rows_of m m (row_coord (modulus m t) t)
