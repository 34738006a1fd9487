-- The coordinates of a list of bytes, and the bytes of given coordinates.
use Rattle.std.specs.Prelude.{List, [], ◌∷◌, ◌++◌, ℕ, zero, suc, ◌+◌, ◌*◌, ◌/◌, ◌%◌, ◌^◌, ◌<◌, get_or}
use Rattle.gf2.specs.Sums.{sum}

-- every element of a list is a byte
abbrev pub Bytes : List ℕ → Type 0
Bytes l = (b : ℕ) → get_or l b 0 < 256

-- "coordinate i is bit i mod 8 (value 2^(i mod 8)) of byte i/8 rounded down"; past the last byte it is 0
unfoldable pub coord : List ℕ → ℕ → ℕ
coord bytes i = get_or bytes (i / 8) 0 / 2 ^ (i % 8) % 2

-- the number whose bits are f 0, f 1, .., f (n - 1), each modulo 2, bit j having value 2^j
unfoldable pub value : ℕ → (ℕ → ℕ) → ℕ
value n f = sum n (λ j. f j % 2 * 2 ^ j)

-- the list f 0, f 1, .., f (n - 1)
unfoldable pub tabulate : ℕ → (ℕ → ℕ) → List ℕ
tabulate zero f = []
tabulate (suc n) f = tabulate n f ++ (f n ∷ [])

-- the n bytes whose coordinates are f 0, f 1, .., each modulo 2
unfoldable pub pack : ℕ → (ℕ → ℕ) → List ℕ
pack n f = tabulate n (λ b. value 8 (λ j. f (b * 8 + j)))
