-- The numbers by which the gates of a list are counted without writing it: from m, the number C of ones and the number q of
-- all-ones rows. `CountsHold` of Statements says that they are those of the lists.
use Rattle.std.specs.Prelude.{ℕ, ◌+◌, ◌-◌, ◌*◌, ◌/◌}
use Rattle.netlist.specs.Lists.{if_none}

-- "m² AND gates"
abbrev pub list_ands : ℕ → ℕ
list_ands m = m * m

-- "XOR gates m(C-1) if plain"
abbrev pub plain_xors : ℕ → ℕ → ℕ
plain_xors m ones = m * (ones - 1)

-- "m(C+m-2)/2 if reduced"
abbrev pub reduced_xors : ℕ → ℕ → ℕ
reduced_xors m ones = m * (ones + m - 2) / 2

-- "if common m(C-m)+m-1 where a row is all ones, else m(C-1)"; with q such rows m(C-m·q)+m·q-1
abbrev pub common_xors : ℕ → ℕ → ℕ → ℕ
common_xors m ones q = if_none q (plain_xors m ones) (m * (ones - m * q) + m * q - 1)

-- "the number g of gates": of the plain list, of the reduced list, and of the common list
abbrev pub plain_gates : ℕ → ℕ → ℕ
plain_gates m ones = m * (m + ones - 1)

abbrev pub reduced_gates : ℕ → ℕ → ℕ
reduced_gates m ones = m * (3 * m + ones - 2) / 2

abbrev pub common_gates : ℕ → ℕ → ℕ → ℕ
common_gates m ones q = if_none q (plain_gates m ones) (m * (m + ones - m * q) + m * q - 1)
