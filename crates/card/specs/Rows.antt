-- The rows of a card: how they are written, and what reading them finds. A range of rows is written and read like all of them.
use Rattle.std.specs.Prelude.{List, [], ◌∷◌, ◌++◌, ℕ, zero, suc, ◌+◌, ◌-◌, ◌*◌, length, take, drop, ltb, leb, eqb}
use Rattle.gf2.specs.Coordinates.{coord}
use Rattle.gf2.specs.Operands.{bytes_for, choose, from_coords}
use Rattle.gf2.specs.Tables.{row}
use Rattle.card.specs.Numbers.{number, Read, refused, got, and_then, read_number}
use Rattle.judging.specs.Faults.{card_place}

-- the places where f isn't 0 among start, start + 1, .., `count` of them
unfoldable pub places : (ℕ → ℕ) → ℕ → ℕ → List ℕ
places f start zero = []
places f start (suc count) =
    choose (eqb (f start) 0) (places f (start + 1) count) (start ∷ places f (start + 1) count)

-- "the first place, and for each further one its place minus the previous minus 1": `free` is 0, then the previous place plus 1
unfoldable pub steps : ℕ → List ℕ → List ℕ
steps free [] = []
steps free (p ∷ ps) = number (p - free) ++ steps (p + 1) ps

-- the places of the ones of a row
abbrev pub ones_of : ℕ → List ℕ → List ℕ
ones_of m bytes = places (coord bytes) 0 m

-- "for each row its number of ones, the first place, .."; "A row with no ones is the number 0 alone"
unfoldable pub row_card : ℕ → List ℕ → List ℕ
row_card m bytes = number (length (ones_of m bytes)) ++ steps 0 (ones_of m bytes)

-- the rows start, start + 1, .., `count` of them
unfoldable pub rows_card : ℕ → List ℕ → ℕ → ℕ → List ℕ
rows_card m table start zero = []
rows_card m table start (suc count) = row_card m (row m table start) ++ rows_card m table (start + 1) count

-- the bytes of these rows
unfoldable pub row_range : ℕ → List ℕ → ℕ → ℕ → List ℕ
row_range m table start count = take (count * bytes_for m) (drop (start * bytes_for m) table)

-- a list, and after it the one that is read
abbrev pub after : List ℕ → Read (List ℕ) → Read (List ℕ)
after x (refused f) = refused f
after x (got y rest) = got (x ++ y) rest

-- 15: "place m or above"; `count` places, the first of them `free` or above
unfoldable pub read_places : ℕ → ℕ → ℕ → List ℕ → Read (List ℕ)
read_places m free zero s = got [] s
read_places m free (suc count) s =
    and_then (read_number s) (λ step rest.
    choose (ltb (free + step) m) (after ((free + step) ∷ []) (read_places m (free + step + 1) count rest)) (refused card_place))

-- 15: "count above m"
unfoldable pub read_row : ℕ → List ℕ → Read (List ℕ)
read_row m s = and_then (read_number s) (λ count rest. choose (leb count m) (read_places m 0 count rest) (refused card_place))

-- 1 at the places of a list, 0 elsewhere
unfoldable pub is_place : List ℕ → ℕ → ℕ
is_place [] i = 0
is_place (p ∷ ps) i = choose (eqb i p) 1 (is_place ps i)

-- "A table is m rows, each an operand of W bytes": the row with ones at these places
abbrev pub row_of : ℕ → List ℕ → List ℕ
row_of m ps = from_coords (bytes_for m) m (is_place ps)

-- the bytes of `count` rows
unfoldable pub read_rows : ℕ → ℕ → List ℕ → Read (List ℕ)
read_rows m zero s = got [] s
read_rows m (suc count) s = and_then (read_row m s) (λ ps rest. after (row_of m ps) (read_rows m count rest))
