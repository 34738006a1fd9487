-- Document 01's starred examples, as data and one statement over their list, by the definitions that the contracts of the calls cite.
-- "Where no rows stand, the table of that width carried in the program is meant."
use Rattle.std.specs.Prelude.{◌≡◌, List, [], ◌∷◌, ℕ, ◌*◌}
use Rattle.judging.specs.FaultTable.{check_causes}
use Rattle.operand.specs.Causes.{solve_bytes_causes}
use Rattle.operand.specs.Calls.{solve_into}
use Rattle.table.specs.Carried.{carried2, carried3}
use Rattle.product.specs.Causes.{product_bytes_causes}
use Rattle.product.specs.Calls.{product_into, inverse_into}
use Rattle.netlist.specs.Calls.{counts_plain_call, counts_reduced_call, counts_common_call}
use Rattle.nb.specs.Packing.{packed}
use Rattle.nb.specs.Calls.{fault_answer, ones_answer, inverse_answer, counts_answer}

-- what is asked, of a width and rows, and what document 01 answers
pub data Example : Type 0 where
  -- a·b is c
  product : (m : ℕ) (rows a b c : List ℕ) → Example
  -- the inverse of a is b, by this many products
  inverse : (m : ℕ) (rows a b : List ℕ) (made : ℕ) → Example
  -- the inverse of a is refused with this number
  no_inverse : (m : ℕ) (rows a : List ℕ) (number : ℕ) → Example
  -- c gives z
  solution : (m : ℕ) (c z : List ℕ) → Example
  -- c is refused with this number
  no_solution : (m : ℕ) (c : List ℕ) (number : ℕ) → Example
  -- the check refuses the rows with this number and these values
  refused : (m : ℕ) (rows : List ℕ) (number first second : ℕ) → Example
  -- the check accepts the rows; their ones; the XOR counts plain, reduced, common
  accepted : (m : ℕ) (rows : List ℕ) (ones plain reduced common : ℕ) → Example

-- the lent result, before the call
abbrev pub lent : List ℕ
lent = 255 ∷ []

unfoldable pub ComesOut : Example → Type 0
ComesOut (product m rows a b c) = (fault_answer (product_bytes_causes m rows a b lent) ≡ packed 0 0 0) × (product_into m rows a b lent ≡ c)
ComesOut (inverse m rows a b made) = (inverse_answer m rows a lent ≡ packed 0 made 0) × (inverse_into m rows a lent ≡ b)
ComesOut (no_inverse m rows a number) = (inverse_answer m rows a lent ≡ packed number 0 0) × (inverse_into m rows a lent ≡ lent)
ComesOut (solution m c z) = (fault_answer (solve_bytes_causes m c lent) ≡ packed 0 0 0) × (solve_into m c lent ≡ z)
ComesOut (no_solution m c number) = (fault_answer (solve_bytes_causes m c lent) ≡ packed number 0 0) × (solve_into m c lent ≡ lent)
ComesOut (refused m rows number first second) = fault_answer (check_causes m rows) ≡ packed number first second
ComesOut (accepted m rows ones plain reduced common) =
    (fault_answer (check_causes m rows) ≡ packed 0 0 0)
    × (ones_answer m rows ≡ packed 0 ones 0)
    × (counts_answer (counts_plain_call m rows) ≡ packed 0 (m * m) plain)
    × (counts_answer (counts_reduced_call m rows) ≡ packed 0 (m * m) reduced)
    × (counts_answer (counts_common_call m rows) ≡ packed 0 (m * m) common)

-- each of a list holds
abbrev pub AllHold : List Example → Type 0
AllHold [] = Unit
AllHold (e ∷ es) = ComesOut e × AllHold es

-- the starred examples, in document 01's order; its bytes are hexadecimal
abbrev pub starred : List Example
starred =
    -- "Width 2: 01·02 = 03; 01·01 = 02."
    product 2 carried2 (0x01 ∷ []) (0x02 ∷ []) (0x03 ∷ [])
    ∷ product 2 carried2 (0x01 ∷ []) (0x01 ∷ []) (0x02 ∷ [])
    -- "Width 3: 01·02 = 05; 03·06 = 04."
    ∷ product 3 carried3 (0x01 ∷ []) (0x02 ∷ []) (0x05 ∷ [])
    ∷ product 3 carried3 (0x03 ∷ []) (0x06 ∷ []) (0x04 ∷ [])
    -- "Width 3: inverse of 01 is 03, 1 product." "Inverse of 00: 9."
    ∷ inverse 3 carried3 (0x01 ∷ []) (0x03 ∷ []) 1
    ∷ no_inverse 3 carried3 (0x00 ∷ []) 9
    -- "Width 3: c = 03 gives 06;" "c = 01 gives 10."
    ∷ solution 3 (0x03 ∷ []) (0x06 ∷ [])
    ∷ no_solution 3 (0x01 ∷ []) 10
    -- "Rows 02 00 at width 2: 6 at (0,1)." "Rows 01 03: 4." "Rows 02 01: 5 at 1."
    ∷ refused 2 (0x02 ∷ 0x00 ∷ []) 6 0 1
    ∷ refused 2 (0x01 ∷ 0x03 ∷ []) 4 0 0
    ∷ refused 2 (0x02 ∷ 0x01 ∷ []) 5 1 0
    -- "Width 5, rows 02 0E 17 1D 07 (004, Example 1): accepted, C = 15; XOR 70, 45, 70."
    ∷ accepted 5 (0x02 ∷ 0x0E ∷ 0x17 ∷ 0x1D ∷ 0x07 ∷ []) 15 70 45 70
    ∷ []
