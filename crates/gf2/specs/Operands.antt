-- Operands as lists of bytes: their form, zero, one, the sum, the turn.
-- An operand may have more bytes than its width needs: inside the program each is carried as `carried_bytes` bytes.
use Rattle.std.specs.Prelude.{◌≡◌, Bool, true, false, ◌&&◌, ◌||◌, List, [], ◌∷◌, ℕ, ◌+◌, ◌-◌, ◌*◌, ◌/◌, ◌%◌, ◌<◌, ◌≤◌, length, get_or, ltb, eqb}
use Rattle.gf2.specs.Sums.{every}
use Rattle.gf2.specs.Coordinates.{coord, pack}

-- "m is the width, 2 to 255", and by document 02, (a), to 571
abbrev pub max_width : ℕ
max_width = 571

-- "W is m/8 rounded up"
abbrev pub bytes_for : ℕ → ℕ
bytes_for m = (m + 7) / 8

-- "Inside the program an operand is carried as 32 bytes", and by document 02, (a), as 72
abbrev pub carried_bytes : ℕ
carried_bytes = 72

-- "All subscripts are taken modulo m": i - k
unfoldable pub minus : ℕ → ℕ → ℕ → ℕ
minus m i k = (i + (m - k % m)) % m

-- "coordinate i is bit i mod 8 of byte i/8, and bits at m and above are 0": n bytes that are an operand of width m
pub record IsOperand (n m : ℕ) (a : List ℕ) : Type 0 where
  pub size : length a ≡ n
  pub byte : (b : ℕ) → get_or a b 0 < 256
  pub clear : (i : ℕ) → m ≤ i → coord a i ≡ 0

-- "bit set at m or above"
abbrev pub HasHighBit : ℕ → List ℕ → Type 0
HasHighBit m a = (i : ℕ) × (m ≤ i) × (coord a i ≡ 1)

-- "bits at m and above are 0", as a test
unfoldable pub is_clear : ℕ → List ℕ → Bool
is_clear m a = every (8 * length a) (λ i. ltb i m || eqb (coord a i) 0)

-- the same bytes, as a test
unfoldable pub same : List ℕ → List ℕ → Bool
same [] [] = true
same [] (y ∷ ys) = false
same (x ∷ xs) [] = false
same (x ∷ xs) (y ∷ ys) = eqb x y && same xs ys

-- x where the test is true, else y
abbrev pub choose : {A : Type 0} → Bool → A → A → A
choose true x y = x
choose false x y = y

-- f below m, and 0 from m on
unfoldable pub below : ℕ → (ℕ → ℕ) → ℕ → ℕ
below m f i = choose (ltb i m) (f i) 0

-- the operand of width m, in n bytes, whose coordinates are f 0, .., f (m - 1), each modulo 2
unfoldable pub from_coords : ℕ → ℕ → (ℕ → ℕ) → List ℕ
from_coords n m f = pack n (below m f)

-- "Inside the program an operand is carried as 72 bytes": the coordinates of W bytes
abbrev pub carried_by : List ℕ → List ℕ
carried_by a = pack carried_bytes (coord a)

-- "Zero is a fixed operand of every width"
unfoldable pub zeroes : ℕ → ℕ → List ℕ
zeroes n m = from_coords n m (λ i. 0)

-- "one is the operand with all m coordinates 1"
unfoldable pub ones : ℕ → ℕ → List ℕ
ones n m = from_coords n m (λ i. 1)

-- "Operands are added coordinate by coordinate modulo 2"
unfoldable pub added : ℕ → List ℕ → List ℕ → List ℕ
added m a b = from_coords (length a) m (λ i. coord a i + coord b i)

-- The turn, a cyclic shift of the coordinates: "turned k places, coordinate i of the result is coordinate i-k of the old"
unfoldable pub turned : ℕ → ℕ → List ℕ → List ℕ
turned m k a = from_coords (length a) m (λ i. coord a (minus m i k))

-- "Squaring means the turn by one": the Frobenius map
unfoldable pub squared : ℕ → List ℕ → List ℕ
squared m a = turned m 1 a
