-- Types of Gaussian normal bases, the two orders in which one is chosen, and the fixed list of the type of each width.
use Rattle.std.specs.Prelude.{◌≡◌, ◌⊎◌, List, [], ◌∷◌, ℕ, ◌+◌, ◌-◌, ◌*◌, ◌/◌, ◌%◌, ◌^◌, ◌<◌, get_or}
use Rattle.std.specs.Int.{◌∣◌}

-- p is prime: no number between 1 and p divides it
abbrev pub Prime : ℕ → Type 0
Prime p = (1 < p) × ((d : ℕ) → 1 < d → d < p → ¬ (p % d ≡ 0))

-- "k being the order of 2 modulo p", of any b: the least power above 0 that leaves 1
abbrev pub IsOrder : ℕ → ℕ → ℕ → Type 0
IsOrder k b p = (0 < k) × (b ^ k % p ≡ 1) × ((j : ℕ) → 0 < j → j < k → ¬ (b ^ j % p ≡ 1))

-- "gcd(..) = 1": no common divisor but 1
abbrev pub Coprime : ℕ → ℕ → Type 0
Coprime a b = (d : ℕ) → d ∣ a → d ∣ b → d ≡ 1

-- "p = T·m+1"
abbrev pub modulus : ℕ → ℕ → ℕ
modulus m t = t * m + 1

-- "Type T of m: p = T·m+1 is prime and gcd(T·m/k, m) = 1, k being the order of 2 modulo p"
abbrev pub IsType : ℕ → ℕ → Type 0
IsType m t = Prime (modulus m t) × ((k : ℕ) × IsOrder k 2 (modulus m t) × Coprime (t * m / k) m)

-- "the least T": document 01's choice, and the last of X9.62's
abbrev pub LeastType : ℕ → ℕ → Type 0
LeastType m t = IsType m t × ((s : ℕ) → s < t → ¬ IsType m s)

-- document 02, (e), ANSI X9.62's choice as document 002 reports it: "type 2 where one exists, then type 1, then the least T"
abbrev pub AnsiType : ℕ → ℕ → Type 0
AnsiType m t =
    (IsType m 2 × (t ≡ 2))
    ⊎ ((¬ IsType m 2) × IsType m 1 × (t ≡ 1))
    ⊎ ((¬ IsType m 2) × (¬ IsType m 1) × LeastType m t)

-- "A fixed list holds the type of each width 2 to 571", "The fixed list follows that order": X9.62's choice, or 0
abbrev pub types : List ℕ
types =
    2 ∷ 2 ∷ 1 ∷ 2 ∷ 2 ∷ 4
    ∷ 0 ∷ 2 ∷ 1 ∷ 2 ∷ 1 ∷ 4 ∷ 2 ∷ 4
    ∷ 0 ∷ 6 ∷ 2 ∷ 10 ∷ 3 ∷ 10 ∷ 3 ∷ 2
    ∷ 0 ∷ 4 ∷ 2 ∷ 6 ∷ 1 ∷ 2 ∷ 2 ∷ 10
    ∷ 0 ∷ 2 ∷ 9 ∷ 2 ∷ 1 ∷ 4 ∷ 6 ∷ 2
    ∷ 0 ∷ 2 ∷ 5 ∷ 4 ∷ 9 ∷ 4 ∷ 3 ∷ 6
    ∷ 0 ∷ 4 ∷ 2 ∷ 2 ∷ 1 ∷ 2 ∷ 3 ∷ 12
    ∷ 0 ∷ 10 ∷ 1 ∷ 12 ∷ 1 ∷ 6 ∷ 6 ∷ 6
    ∷ 0 ∷ 2 ∷ 1 ∷ 4 ∷ 9 ∷ 2 ∷ 3 ∷ 8
    ∷ 0 ∷ 4 ∷ 2 ∷ 10 ∷ 3 ∷ 6 ∷ 7 ∷ 4
    ∷ 0 ∷ 2 ∷ 1 ∷ 2 ∷ 5 ∷ 12 ∷ 2 ∷ 4
    ∷ 0 ∷ 2 ∷ 2 ∷ 6 ∷ 3 ∷ 4 ∷ 3 ∷ 2
    ∷ 0 ∷ 4 ∷ 2 ∷ 2 ∷ 1 ∷ 6 ∷ 6 ∷ 6
    ∷ 0 ∷ 2 ∷ 1 ∷ 6 ∷ 5 ∷ 10 ∷ 6 ∷ 20
    ∷ 0 ∷ 2 ∷ 5 ∷ 4 ∷ 3 ∷ 8 ∷ 6 ∷ 2
    ∷ 0 ∷ 6 ∷ 6 ∷ 10 ∷ 3 ∷ 6 ∷ 3 ∷ 4
    ∷ 0 ∷ 8 ∷ 1 ∷ 2 ∷ 5 ∷ 12 ∷ 2 ∷ 2
    ∷ 0 ∷ 6 ∷ 1 ∷ 4 ∷ 3 ∷ 8 ∷ 6 ∷ 6
    ∷ 0 ∷ 10 ∷ 2 ∷ 6 ∷ 1 ∷ 8 ∷ 19 ∷ 6
    ∷ 0 ∷ 4 ∷ 25 ∷ 2 ∷ 13 ∷ 10 ∷ 2 ∷ 22
    ∷ 0 ∷ 6 ∷ 1 ∷ 4 ∷ 5 ∷ 4 ∷ 3 ∷ 14
    ∷ 0 ∷ 4 ∷ 6 ∷ 12 ∷ 1 ∷ 2 ∷ 2 ∷ 4
    ∷ 0 ∷ 4 ∷ 1 ∷ 2 ∷ 1 ∷ 6 ∷ 3 ∷ 2
    ∷ 0 ∷ 8 ∷ 2 ∷ 6 ∷ 5 ∷ 2 ∷ 10 ∷ 2
    ∷ 0 ∷ 4 ∷ 2 ∷ 6 ∷ 1 ∷ 18 ∷ 22 ∷ 4
    ∷ 0 ∷ 8 ∷ 6 ∷ 12 ∷ 3 ∷ 4 ∷ 3 ∷ 4
    ∷ 0 ∷ 2 ∷ 2 ∷ 10 ∷ 5 ∷ 4 ∷ 3 ∷ 6
    ∷ 0 ∷ 6 ∷ 5 ∷ 4 ∷ 3 ∷ 2 ∷ 10 ∷ 12
    ∷ 0 ∷ 22 ∷ 1 ∷ 24 ∷ 9 ∷ 12 ∷ 2 ∷ 2
    ∷ 0 ∷ 2 ∷ 5 ∷ 4 ∷ 3 ∷ 10 ∷ 7 ∷ 2
    ∷ 0 ∷ 6 ∷ 6 ∷ 2 ∷ 3 ∷ 2 ∷ 11 ∷ 6
    ∷ 0 ∷ 8 ∷ 9 ∷ 2 ∷ 3 ∷ 10 ∷ 2 ∷ 6
    ∷ 0 ∷ 6 ∷ 5 ∷ 10 ∷ 5 ∷ 2 ∷ 3 ∷ 6
    ∷ 0 ∷ 4 ∷ 6 ∷ 8 ∷ 1 ∷ 8 ∷ 2 ∷ 6
    ∷ 0 ∷ 2 ∷ 9 ∷ 14 ∷ 3 ∷ 4 ∷ 2 ∷ 4
    ∷ 0 ∷ 2 ∷ 6 ∷ 6 ∷ 3 ∷ 10 ∷ 3 ∷ 6
    ∷ 0 ∷ 12 ∷ 5 ∷ 6 ∷ 1 ∷ 2 ∷ 3 ∷ 16
    ∷ 0 ∷ 6 ∷ 6 ∷ 2 ∷ 19 ∷ 10 ∷ 3 ∷ 2
    ∷ 0 ∷ 6 ∷ 2 ∷ 4 ∷ 15 ∷ 2 ∷ 6 ∷ 6
    ∷ 0 ∷ 6 ∷ 5 ∷ 8 ∷ 1 ∷ 26 ∷ 11 ∷ 4
    ∷ 0 ∷ 12 ∷ 6 ∷ 2 ∷ 5 ∷ 4 ∷ 2 ∷ 8
    ∷ 0 ∷ 2 ∷ 2 ∷ 6 ∷ 3 ∷ 24 ∷ 7 ∷ 12
    ∷ 0 ∷ 10 ∷ 2 ∷ 8 ∷ 3 ∷ 8 ∷ 6 ∷ 4
    ∷ 0 ∷ 4 ∷ 1 ∷ 6 ∷ 1 ∷ 10 ∷ 2 ∷ 10
    ∷ 0 ∷ 14 ∷ 2 ∷ 6 ∷ 3 ∷ 10 ∷ 10 ∷ 2
    ∷ 0 ∷ 30 ∷ 5 ∷ 4 ∷ 3 ∷ 24 ∷ 22 ∷ 6
    ∷ 0 ∷ 10 ∷ 6 ∷ 2 ∷ 1 ∷ 4 ∷ 3 ∷ 2
    ∷ 0 ∷ 14 ∷ 2 ∷ 12 ∷ 5 ∷ 8 ∷ 6 ∷ 12
    ∷ 0 ∷ 6 ∷ 2 ∷ 4 ∷ 1 ∷ 24 ∷ 3 ∷ 6
    ∷ 0 ∷ 2 ∷ 9 ∷ 6 ∷ 11 ∷ 6 ∷ 2 ∷ 12
    ∷ 0 ∷ 8 ∷ 5 ∷ 16 ∷ 3 ∷ 4 ∷ 6 ∷ 8
    ∷ 0 ∷ 4 ∷ 2 ∷ 2 ∷ 3 ∷ 2 ∷ 2 ∷ 28
    ∷ 0 ∷ 4 ∷ 1 ∷ 2 ∷ 1 ∷ 10 ∷ 11 ∷ 4
    ∷ 0 ∷ 6 ∷ 2 ∷ 16 ∷ 5 ∷ 2 ∷ 3 ∷ 2
    ∷ 0 ∷ 4 ∷ 9 ∷ 4 ∷ 13 ∷ 18 ∷ 2 ∷ 10
    ∷ 0 ∷ 2 ∷ 1 ∷ 2 ∷ 5 ∷ 6 ∷ 6 ∷ 6
    ∷ 0 ∷ 8 ∷ 13 ∷ 6 ∷ 11 ∷ 2 ∷ 19 ∷ 26
    ∷ 0 ∷ 30 ∷ 6 ∷ 8 ∷ 1 ∷ 6 ∷ 10 ∷ 12
    ∷ 0 ∷ 4 ∷ 1 ∷ 6 ∷ 21 ∷ 4 ∷ 2 ∷ 8
    ∷ 0 ∷ 2 ∷ 5 ∷ 4 ∷ 5 ∷ 46 ∷ 7 ∷ 8
    ∷ 0 ∷ 6 ∷ 5 ∷ 2 ∷ 3 ∷ 18 ∷ 10 ∷ 4
    ∷ 0 ∷ 12 ∷ 1 ∷ 2 ∷ 13 ∷ 4 ∷ 3 ∷ 2
    ∷ 0 ∷ 20 ∷ 9 ∷ 4 ∷ 11 ∷ 10 ∷ 10 ∷ 6
    ∷ 0 ∷ 10 ∷ 5 ∷ 4 ∷ 1 ∷ 2 ∷ 3 ∷ 6
    ∷ 0 ∷ 4 ∷ 33 ∷ 2 ∷ 3 ∷ 4 ∷ 14 ∷ 2
    ∷ 0 ∷ 32 ∷ 1 ∷ 10 ∷ 5 ∷ 8 ∷ 3 ∷ 6
    ∷ 0 ∷ 24 ∷ 2 ∷ 2 ∷ 3 ∷ 12 ∷ 7 ∷ 4
    ∷ 0 ∷ 8 ∷ 6 ∷ 12 ∷ 1 ∷ 18 ∷ 3 ∷ 2
    ∷ 0 ∷ 2 ∷ 1 ∷ 10 ∷ 5 ∷ 14 ∷ 7 ∷ 6
    ∷ 0 ∷ 4 ∷ 2 ∷ 4 ∷ 1 ∷ 6 ∷ 2 ∷ 4
    ∷ 0 ∷ 2 ∷ 1 ∷ 14 ∷ 3 ∷ 10 ∷ 3 ∷ 4
    ∷ 0 ∷ 12 ∷ 5 ∷ 10 ∷ []

-- the list's entry for the width m
unfoldable pub type_of : ℕ → ℕ
type_of m = get_or types (m - 2) 0

-- the greatest type of the list
abbrev pub max_type : ℕ
max_type = 46
