-- The trace, and the solution of z² + z = c.
use Rattle.std.specs.Prelude.{List, ℕ, zero, suc, ◌+◌, ◌%◌, length}
use Rattle.gf2.specs.Sums.{sum}
use Rattle.gf2.specs.Coordinates.{coord}
use Rattle.gf2.specs.Operands.{from_coords}

-- "The trace is the sum of coordinates modulo 2"
unfoldable pub trace : ℕ → List ℕ → ℕ
trace m a = sum m (coord a) % 2

-- "the solution whose coordinate 0 is 0: zi = z(i-1) + ci for i = 1 to m-1"
unfoldable pub root_coord : List ℕ → ℕ → ℕ
root_coord c zero = 0
root_coord c (suc i) = (root_coord c i + coord c (suc i)) % 2

-- "z² + z = c is answered with the solution whose coordinate 0 is 0"
unfoldable pub root : ℕ → List ℕ → List ℕ
root m c = from_coords (length c) m (root_coord c)
