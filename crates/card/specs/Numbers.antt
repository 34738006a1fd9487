-- The numbers of a card: how they are written, and what reading one finds.
use Rattle.std.specs.Prelude.{List, [], ◌∷◌, ℕ, ◌+◌, ◌-◌, ◌*◌, ◌/◌, ◌%◌, ltb, eqb}
use Rattle.gf2.specs.Operands.{choose}
use Rattle.judging.specs.declared.fault.Fault.{Fault}
use Rattle.judging.specs.Faults.{card_ends, card_number}

-- "Numbers are in seven-bit groups, low group first, high bit set when another follows, shortest form, at most two groups"
unfoldable pub number : ℕ → List ℕ
number n = choose (ltb n 128) (n ∷ []) ((128 + n % 128) ∷ (n / 128) ∷ [])

-- the numbers that two groups hold are those below 2^14
abbrev pub number_limit : ℕ
number_limit = 128 * 128

-- "a card is judged in byte order": what reading a part of a card finds, a fault or a value and the bytes that are left
pub data Read (A : Type 0) : Type 0 where
  refused : Fault → Read A
  got : A → List ℕ → Read A

-- one part, and after it the part that its value and the bytes left determine
abbrev pub and_then : {A B : Type 0} → Read A → (A → List ℕ → Read B) → Read B
and_then (refused f) next = refused f
and_then (got a rest) next = next a rest

-- 13: "card number not shortest, or third group"; "A second group with its high bit set is 13 at that byte, even where the card ends there"
unfoldable pub second_group : ℕ → List ℕ → Read ℕ
second_group low [] = refused card_ends
second_group low (g ∷ rest) =
    choose (eqb g 0) (refused card_number) (choose (ltb g 128) (got (low + g * 128) rest) (refused card_number))

-- 12: "card ends early"; "low group first, high bit set when another follows"
unfoldable pub read_number : List ℕ → Read ℕ
read_number [] = refused card_ends
read_number (g ∷ rest) = choose (ltb g 128) (got g rest) (second_group (g - 128) rest)
