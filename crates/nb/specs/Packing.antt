-- How an answer is packed into one number of 64 bits, and what comes back out of it.
use Rattle.std.specs.Prelude.{◌≡◌, Bool, true, ◌&&◌, ℕ, ◌+◌, ◌*◌, ◌/◌, ◌%◌, ◌^◌, ◌<◌, ltb, Result, Ok, Err}
use Rattle.judging.specs.declared.fault.Fault.{Fault}
use Rattle.judging.specs.Faults.{number_of}
use Rattle.judging.specs.Causes.{Verdict}
use Rattle.netlist.specs.declared.GateCounts.{GateCounts}

-- "number + 2^8 · first + 2^36 · second"
abbrev pub packed : ℕ → ℕ → ℕ → ℕ
packed number first second = number + 2 ^ 8 * first + 2 ^ 36 * second

-- a fault's number, and what document 01 returns beside it: with 5 the least d, with 6 i and j
unfoldable pub packed_fault : Fault → ℕ
packed_fault f = packed (number_of f).0 (number_of f).1 (number_of f).2

-- a fault, or "number 0 is success" and the values that the call returns: none, one, or the counts of AND and of XOR gates
abbrev pub packed_verdict : Verdict → ℕ
packed_verdict (Ok _) = packed 0 0 0
packed_verdict (Err f) = packed_fault f

abbrev pub packed_value : Result ℕ Fault → ℕ
packed_value (Ok value) = packed 0 value 0
packed_value (Err f) = packed_fault f

abbrev pub packed_counts : Result GateCounts Fault → ℕ
packed_counts (Ok counts) = packed 0 counts.ands.0 counts.xors.0
packed_counts (Err f) = packed_fault f

-- a value that has room in its 28 bits
abbrev pub value_limit : ℕ
value_limit = 2 ^ 28

-- a fault's number has room in its 8 bits, and what document 01 returns beside it in 28 each
unfoldable pub is_small : Fault → Bool
is_small f = ltb (number_of f).0 (2 ^ 8) && (ltb (number_of f).1 value_limit && ltb (number_of f).2 value_limit)

-- a fault that has room, or a value of which P holds
abbrev pub Packs : {A : Type 0} → (A → Type 0) → Result A Fault → Type 0
Packs P (Ok value) = P value
Packs P (Err f) = is_small f ≡ true

-- no value, one or two that have room
abbrev pub PacksVerdict : Verdict → Type 0
PacksVerdict v = Packs (λ _. Unit {0}) v

abbrev pub PacksValue : Result ℕ Fault → Type 0
PacksValue r = Packs (λ value. value < value_limit) r

abbrev pub PacksCounts : Result GateCounts Fault → Type 0
PacksCounts r = Packs (λ counts. (counts.ands.0 < value_limit) × (counts.xors.0 < value_limit)) r

-- what comes back out of an answer: its low 8 bits are the number n, the 28 above them the first value x, the rest the second value y
pub record Unpacks (answer n x y : ℕ) : Type 0 where
  pub number : answer % 2 ^ 8 ≡ n
  pub first : answer / 2 ^ 8 % 2 ^ 28 ≡ x
  pub second : answer / 2 ^ 36 ≡ y
