-- Operands as FIPS 186 publishes them: hexadecimal digits of a number of m bits, as few as hold them.
use Rattle.std.specs.Prelude.{List, ℕ, ◌+◌, ◌-◌, ◌*◌, ◌/◌, ◌%◌, ◌^◌, get_or}
use Rattle.gf2.specs.Coordinates.{pack}
use Rattle.gf2.specs.Operands.{carried_bytes}
use Rattle.operand.specs.declared.Operand.{Operand}

-- 0 to 9 are the characters 48 to 57, a to f are 97 to 102; what isn't there counts 0
abbrev pub digit_value : ℕ → ℕ
digit_value c = c % 16 + c / 64 * 9

-- bit t of the digits, modulo 2: each digit is four bits, most significant first
unfoldable pub digit_bit : List ℕ → ℕ → ℕ
digit_bit digits t = digit_value (get_or digits (t / 4) 0) / 2 ^ (3 - t % 4)

-- "of the m bits the leftmost is coordinate 0": before the m bits stand those that fill the first digit
unfoldable pub published_coord : ℕ → List ℕ → ℕ → ℕ
published_coord m digits i = digit_bit digits ((4 - m % 4) % 4 + i)

-- the carried operand of width m with these coordinates
unfoldable pub published : ℕ → List ℕ → Operand
published m digits = record { bytes = pack carried_bytes (published_coord m digits); width = m }
