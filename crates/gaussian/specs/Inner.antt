-- Inner definitions, which no contract of a public function cites: what drawing states of residues, logarithms and tables.
use Rattle.std.specs.Prelude.{◌≡◌, List, ℕ, ◌+◌, ◌*◌, ◌%◌, ◌^◌, ◌<◌, ◌≤◌, length, get_or, eqb, Option, None, Some}
use Rattle.gf2.specs.Operands.{max_width, bytes_for, choose}
use Rattle.gaussian.specs.Types.{IsType, modulus, type_of, max_type}
use Rattle.gaussian.specs.Table.{rows_of}

-- one more than the greatest modulus that a listed type can give
abbrev pub residues : ℕ
residues = max_type * max_width + 2

-- x is a residue modulo p
abbrev pub Residue : ℕ → ℕ → Type 0
Residue p x = x < p

-- a width and a type that can be drawn
pub record Drawable (m t : ℕ) : Type 0 where
  pub least : 2 ≤ m
  pub greatest : m ≤ max_width
  pub is_type : IsType m t
  pub small : t ≤ max_type

-- logarithms of the first n powers of 2^T modulo p: entry y is s + 1 where y is power s, and 0 where it is none
pub record Logarithms (m t n : ℕ) (logs : List ℕ) : Type 0 where
  pub size : length logs ≡ residues
  pub known : (s : ℕ) → s < n → get_or logs ((2 ^ t) ^ s % modulus m t) 0 ≡ s + 1
  pub sound : (y s : ℕ) → get_or logs y 0 ≡ s + 1 → (s < n) × ((2 ^ t) ^ s % modulus m t ≡ y)

-- what is answered of x: the s below m for which (2^T)^s is x^T modulo p, or that there is none
abbrev pub LogarithmOf : ℕ → ℕ → ℕ → Option ℕ → Type 0
LogarithmOf m t x None = (s : ℕ) → s < m → ¬ ((2 ^ t) ^ s % modulus m t ≡ x ^ t % modulus m t)
LogarithmOf m t x (Some s) = (s < m) × ((2 ^ t) ^ s % modulus m t ≡ x ^ t % modulus m t)

-- a table of width m, with a row d
pub record HasRow (m d : ℕ) (table : List ℕ) : Type 0 where
  pub greatest : m ≤ max_width
  pub size : length table ≡ m * bytes_for m
  pub row : d < m

-- k i at coordinate i of row d, and 0 in the other rows
abbrev pub in_row : ℕ → (ℕ → ℕ) → ℕ → ℕ → ℕ
in_row d k e i = choose (eqb e d) (k i) 0

-- h d s is added to coordinate s of row d, for all d and s
abbrev pub Adds : ℕ → (ℕ → ℕ → ℕ) → List ℕ → List ℕ → Type 0
Adds m h old new = (f : ℕ → ℕ → ℕ) → old ≡ rows_of m m f → new ≡ rows_of m m (λ d s. f d s + h d s)

-- the list's entry for a width, where it isn't 0
unfoldable pub listed : ℕ → Option ℕ
listed m = choose (eqb (type_of m) 0) None (Some (type_of m))
