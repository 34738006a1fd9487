-- A carried operand as limbs of 64 bits: the coordinates of its bytes, in larger digits.
use Rattle.std.specs.Prelude.{◌≡◌, Bool, ◌&&◌, List, ℕ, ◌+◌, ◌-◌, ◌*◌, ◌/◌, ◌%◌, ◌^◌, ◌<◌, ◌≤◌, leb, ltb, eqb, length, get_or}
use Rattle.gf2.specs.Coordinates.{coord, value, tabulate, pack}
use Rattle.gf2.specs.Operands.{carried_bytes, choose}

-- the limbs of `carried_bytes` bytes
abbrev pub carried_limbs : ℕ
carried_limbs = carried_bytes / 8

-- the limbs of the narrower operands
abbrev pub few : ℕ
few = 4

-- the limbs that a width is worked on in: the few first where they have room for its coordinates and one more, else all
abbrev pub reach : ℕ → ℕ
reach m = choose (ltb m (64 * few)) few carried_limbs

-- whether a loop over the limbs of a width ends before limb w
unfoldable pub ends_at : ℕ → ℕ → Bool
ends_at w m = eqb w few && ltb m (64 * few)

-- coordinate i is bit i mod 64 of limb i/64 rounded down; past the last limb it is 0
unfoldable pub limb_coord : List ℕ → ℕ → ℕ
limb_coord limbs i = get_or limbs (i / 64) 0 / 2 ^ (i % 64) % 2

-- the n limbs whose coordinates are f 0, f 1, .., each modulo 2
unfoldable pub pack_limbs : ℕ → (ℕ → ℕ) → List ℕ
pack_limbs n f = tabulate n (λ w. value 64 (λ j. f (w * 64 + j)))

-- the limbs of bytes, and the bytes of limbs
abbrev pub limbs_of : List ℕ → List ℕ
limbs_of bytes = pack_limbs carried_limbs (coord bytes)

abbrev pub bytes_of : List ℕ → List ℕ
bytes_of limbs = pack carried_bytes (limb_coord limbs)

-- f moved n up: at i it is f (i - n), and 0 below n
abbrev pub raised : ℕ → (ℕ → ℕ) → ℕ → ℕ
raised n f i = choose (leb n i) (f (i - n)) 0

-- the first t bytes of a limb, in a list from place b on as far as that goes; what stands before them is as it was
pub record LimbPut (t limb b : ℕ) (before after : List ℕ) : Type 0 where
  pub size : length after ≡ length before
  pub front : (i : ℕ) → i < b → get_or after i 0 ≡ get_or before i 0
  pub bytes : (j : ℕ) → j < t → b + j < length before → get_or after (b + j) 0 ≡ limb / 2 ^ (8 * j) % 256

-- 0 at the places from `first` up to `last`; what stands before them is as it was
pub record Cleared (first last : ℕ) (before after : List ℕ) : Type 0 where
  pub size : length after ≡ length before
  pub front : (i : ℕ) → i < first → get_or after i 0 ≡ get_or before i 0
  pub zeroes : (i : ℕ) → first ≤ i → i < last → get_or after i 0 ≡ 0

-- the bytes of a list before places m and n have the coordinates of limbs
pub record Stored (x : List ℕ) (m n : ℕ) (l : List ℕ) : Type 0 where
  pub bytes : (i : ℕ) → i < m → i < n → get_or l i 0 ≡ value 8 (λ j. limb_coord x (i * 8 + j))
