-- The plain product and the reduced product of two operands under a table; the reduced product by distances.
use Rattle.std.specs.Prelude.{List, ℕ, suc, ◌+◌, ◌-◌, ◌*◌, ◌/◌, ◌%◌, length, eqb}
use Rattle.gf2.specs.Sums.{sum}
use Rattle.gf2.specs.Coordinates.{coord}
use Rattle.gf2.specs.Operands.{minus, choose, from_coords}
use Rattle.gf2.specs.Tables.{pair_product}

-- "coordinate r is the sum modulo 2 of ai·bj over all i, j for which βi·βj has coordinate r"
unfoldable pub product : ℕ → List ℕ → List ℕ → List ℕ → List ℕ
product m table a b =
    from_coords (length a) m (λ r. sum m (λ i. sum m (λ j. coord a i * coord b j * coord (pair_product m table i j) r)))

-- "coordinate r is a(r-1)·b(r-1) plus the sum of ai·bj + aj·bi over i < j for which βi·βj has coordinate r"
unfoldable pub reduced : ℕ → List ℕ → List ℕ → List ℕ → List ℕ
reduced m table a b =
    from_coords (length a) m (λ r.
    coord a (minus m r 1) * coord b (minus m r 1)
    + sum m (λ j. sum j (λ i. (coord a i * coord b j + coord a j * coord b i) * coord (pair_product m table i j) r)))

-- of the pairs i, i + d the first n: the sum of ai·b(i+d) + a(i+d)·bi for which βi·β(i+d) has coordinate r
unfoldable pub pairs_apart : ℕ → List ℕ → List ℕ → List ℕ → ℕ → ℕ → ℕ → ℕ
pairs_apart m table a b r n d =
    sum n (λ i. (coord a i * coord b ((i + d) % m) + coord a ((i + d) % m) * coord b i) * coord (pair_product m table i ((i + d) % m)) r)

-- 004's Theorem 1 by the distance of the pairs: all m pairs at the distances 1 to (m-1)/2, and for even m the m/2 pairs at distance m/2, once
unfoldable pub by_distance : ℕ → List ℕ → List ℕ → List ℕ → List ℕ
by_distance m table a b =
    from_coords (length a) m (λ r.
    coord a (minus m r 1) * coord b (minus m r 1)
    + (sum ((m - 1) / 2) (λ d. pairs_apart m table a b r m (suc d))
    + choose (eqb (m % 2) 0) (pairs_apart m table a b r (m / 2) (m / 2)) 0))
