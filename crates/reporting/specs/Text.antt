-- Text as bytes: words, decimal numbers, lines; and the value that holds it.
use Rattle.std.specs.Prelude.{List, [], ◌∷◌, ◌++◌, ℕ, zero, suc, ◌+◌, ◌-◌, ◌^◌, length, replicate, ltb}
use Prim.Native.Char.{code}
use Prim.Native.String.{String}
use Prim.Native.String.{[] as []ˢ, ◌∷◌ as ◌∷ˢ◌}
use Rattle.io.specs.Digits.{last_digits}
use Rattle.gf2.specs.Operands.{choose}
use Rattle.reporting.specs.declared.text.Text.{Text}

-- the bytes of a text in ASCII
abbrev pub ascii : String → List ℕ
ascii []ˢ = []
ascii (c ∷ˢ s) = code c ∷ ascii s

-- the fewest digits, from k on, that hold n in decimal; k + more are enough
unfoldable pub digits_from : ℕ → ℕ → ℕ → ℕ
digits_from n k zero = k
digits_from n k (suc more) = choose (ltb n (10 ^ k)) k (digits_from n (k + 1) more)

-- the fewest digits that hold n in decimal, one at least: n + 1 are enough
abbrev pub digit_count : ℕ → ℕ
digit_count n = digits_from n 1 n

-- n in decimal, with no zero in front
unfoldable pub decimal : ℕ → List ℕ
decimal n = last_digits 10 (digit_count n) n

-- a space and a number, for each of some numbers
unfoldable pub spaced : List ℕ → List ℕ
spaced [] = []
spaced (n ∷ ns) = ascii " " ++ (decimal n ++ spaced ns)

-- "a line each": a word and some numbers
unfoldable pub line : List ℕ → List ℕ → List ℕ
line word ns = word ++ (spaced ns ++ ascii "\n")

-- the bytes that a text has room for
abbrev pub room : ℕ
room = 128

-- bytes as a text: 0 after them
abbrev pub text_of : List ℕ → Text
text_of l = record { bytes = l ++ replicate (room - length l) 0; length = length l }
