-- The tests of types that antt computes: a type, no type, no lesser type, X9.62's choice, an entry of the list, a width with types 1 and 2.
use mathlib.Core.Bool.{Bool, true, false}
use mathlib.Core.List.{List, [], ◌∷◌}
use Prim.Native.Nat.{ℕ, zero, suc, ◌+◌, ◌*◌, ◌/◌, ◌%◌, ◌^◌}
use lib.Dec.{eqb, ltb}
use Rattle.gaussian.specs.Statements.{both_types}
use Rattle.gaussian.proofs.Entries.{both}

-- no divisor of p from d on, up to its square root
abbrev pub no_div : ℕ → ℕ → ℕ → Bool
no_div zero d p = false
no_div (suc f) d p = elim (ltb p (d * d)) [ true ↦ true | false ↦ elim (eqb (p % d) 0) [ true ↦ false | false ↦ no_div f (suc d) p ] ]

-- the first divisor of p from d on, up to its square root; 0 if there is none
abbrev pub divisor : ℕ → ℕ → ℕ → ℕ
divisor zero d p = 0
divisor (suc f) d p = elim (ltb p (d * d)) [ true ↦ 0 | false ↦ elim (eqb (p % d) 0) [ true ↦ d | false ↦ divisor f (suc d) p ] ]

-- n divides m, and the power of 2 by e / n leaves 1 modulo p
abbrev pub hits : ℕ → ℕ → ℕ → ℕ → Bool
hits m e p n = both (eqb (m % n) 0) (eqb (2 ^ (e / n) % p) 1)

-- none of the numbers 2 to n + 1 hits
abbrev pub no_hit : ℕ → ℕ → ℕ → ℕ → Bool
no_hit m e p zero = true
no_hit m e p (suc n) = elim (hits m e p (suc (suc n))) [ true ↦ false | false ↦ no_hit m e p n ]

-- one of the numbers 2 to n + 1 that hits; 0 if there is none
abbrev pub hit : ℕ → ℕ → ℕ → ℕ → ℕ
hit m e p zero = 0
hit m e p (suc n) = elim (hits m e p (suc (suc n))) [ true ↦ suc (suc n) | false ↦ hit m e p n ]

-- t is a type of m
abbrev pub is_type : ℕ → ℕ → Bool
is_type m t = both (no_div (t * m + 1) 2 (t * m + 1)) (both (eqb (2 ^ (t * m) % (t * m + 1)) 1) (no_hit m (t * m) (t * m + 1) m))

-- d refutes that p is prime
abbrev pub refutes : ℕ → ℕ → Bool
refutes p d = both (ltb 1 d) (both (ltb d p) (eqb (p % d) 0))

-- n above 1 hits
abbrev pub refutes' : ℕ → ℕ → ℕ → ℕ → Bool
refutes' m e p n = both (ltb 1 n) (hits m e p n)

-- t is no type of m
abbrev pub no_type : ℕ → ℕ → Bool
no_type m t =
    elim (refutes (t * m + 1) (divisor (t * m + 1) 2 (t * m + 1))) [ true ↦ true | false ↦ refutes' m (t * m) (t * m + 1) (hit m (t * m) (t * m + 1) m) ]

-- nor is any lesser number above 0
abbrev pub none_below : ℕ → ℕ → Bool
none_below m zero = true
none_below m (suc t) = elim (eqb t 0) [ true ↦ true | false ↦ both (no_type m t) (none_below m t) ]

-- t is the least type of m, and above 2
abbrev pub least_above : ℕ → ℕ → Bool
least_above m t = both (ltb 2 t) (both (is_type m t) (none_below m t))

-- t is 1, and a type of m where 2 is none; or it is the least, above 2
abbrev pub not_two : ℕ → ℕ → Bool
not_two m t = elim (eqb t 1) [ true ↦ both (no_type m 2) (is_type m 1) | false ↦ least_above m t ]

-- t is X9.62's choice for m
abbrev pub ansi_type : ℕ → ℕ → Bool
ansi_type m t = elim (eqb t 2) [ true ↦ is_type m 2 | false ↦ not_two m t ]

-- the entry x of the width k + 2
abbrev pub entry : ℕ → ℕ → Bool
entry k x = elim (eqb ((k + 2) % 8) 0) [ true ↦ eqb x 0 | false ↦ ansi_type (k + 2) x ]

-- x stands in a list
abbrev pub among : ℕ → List ℕ → Bool
among x [] = false
among x (y ∷ ys) = elim (eqb x y) [ true ↦ true | false ↦ among x ys ]

-- 1 or 2 is no type of m
abbrev pub one_missing : ℕ → Bool
one_missing m = elim (no_type m 1) [ true ↦ true | false ↦ no_type m 2 ]

-- 1 and 2 both are types of m, if it is one of the widths of which this is said; else one of them is none
abbrev pub has_both : ℕ → Bool
has_both m = elim (among m both_types) [ true ↦ both (is_type m 1) (is_type m 2) | false ↦ one_missing m ]
