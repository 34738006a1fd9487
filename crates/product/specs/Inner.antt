-- Inner definitions, of which only inner functions speak: operands without fault, the rows that a method looks at and what they
-- add, and the states of the inverse's chain. No demand cites them.
use Rattle.std.specs.Prelude.{◌≡◌, Bool, true, List, [], ◌∷◌, ◌++◌, ℕ, ◌+◌, ◌-◌, ◌*◌, ◌/◌, ◌%◌, ◌^◌, ◌<◌, ◌≤◌, eqb, Result}
use Rattle.gf2.specs.Sums.{sum}
use Rattle.gf2.specs.Operands.{max_width, carried_bytes, IsOperand, minus, choose, from_coords, turned}
use Rattle.gf2.specs.Tables.{row}
use Rattle.gf2.specs.Products.{product}
use Rattle.gf2.specs.Check.{Symmetric}
use Rattle.gf2.specs.Inverse.{Chain, adding, digits, inverse, products_made}
use Rattle.limbs.specs.Limbs.{reach, limb_coord}
use Rattle.operand.specs.declared.Operand.{Operand}
use Rattle.judging.specs.declared.fault.Fault.{Fault}
use Rattle.judging.specs.Causes.{Cause, judged, answered}
use Rattle.judging.specs.FaultTable.{not_table, high_bit, high_bit_in_row, is_zero}
use Rattle.operand.specs.Calls.{answer}
use Rattle.table.specs.Rows.{Shaped}
use Rattle.scatter.specs.Cells.{HasSlots, slot_sum, total_at}
use Rattle.product.specs.declared.Inverted.{Inverted}
use Rattle.scatter.specs.declared.methods.Method.{Method}
use Rattle.scatter.specs.declared.methods.Method.TheVariants.{Plain, Reduced}
use Rattle.product.specs.declared.chain.State.{State}
use Rattle.product.specs.Causes.{rules_by}
use Rattle.product.specs.Calls.{counted, multiplied}

-- the operand of width m with these bytes
abbrev pub operand_of : ℕ → List ℕ → Operand
operand_of m x = record { bytes = x; width = m }

-- the operand of width m with the coordinates f 0, .., f (m - 1), each modulo 2
abbrev pub made : ℕ → (ℕ → ℕ) → Operand
made m f = operand_of m (from_coords carried_bytes m f)

-- a width that has passed
abbrev pub IsWidth : ℕ → Type 0
IsWidth m = (2 ≤ m) × (m ≤ max_width)

-- an operand of width m that has no fault
pub record Sound (m : ℕ) (a : Operand) : Type 0 where
  pub least : 2 ≤ m
  pub greatest : m ≤ max_width
  pub width : a.width ≡ m
  pub operand : IsOperand carried_bytes m a.bytes

-- a table that a method can go by
abbrev pub Serves : Method → ℕ → List ℕ → Type 0
Serves Plain m table = Shaped m table
Serves Reduced m table = Shaped m table × Symmetric m table

-- what follows the widths and the lengths: the table; two factors, and the rules that a method asks for; an operand that isn't zero
abbrev pub row_causes : ℕ → List ℕ → List Cause
row_causes m table = not_table m table ∷ high_bit_in_row m table ∷ []

abbrev pub factor_causes : Method → ℕ → List ℕ → List ℕ → List ℕ → List Cause
factor_causes k m table x y = row_causes m table ++ (high_bit m x ∷ high_bit m y ∷ rules_by k m table)

abbrev pub unit_causes : ℕ → List ℕ → List ℕ → List Cause
unit_causes m table x = row_causes m table ++ (high_bit m x ∷ is_zero carried_bytes m x ∷ [])

-- what is answered where the widths or the lengths have passed
abbrev pub product_answer : Method → ℕ → List ℕ → List ℕ → List ℕ → Result Operand Fault
product_answer k m table x y = answer (judged (factor_causes k m table x y)) m (multiplied k m table x y)

abbrev pub inverse_answer : ℕ → List ℕ → List ℕ → Result Inverted Fault
inverse_answer m table x = answered (judged (unit_causes m table x)) (counted m (inverse m table x) (products_made m table x))

-- whether row d meets its pairs one way round: always in the plain product, and in the reduced at distance m/2,
-- where the other way gives the same pairs
abbrev pub is_one_way : Method → ℕ → ℕ → Bool
is_one_way Plain m d = true
is_one_way Reduced m d = eqb (2 * d) m

-- coordinate i of what row d meets: the product of the pair i, i + d, and unless it is met one way that of the pair the other way round
unfoldable pub met_limbs : Method → ℕ → ℕ → List ℕ → List ℕ → ℕ → ℕ
met_limbs k m d x y i = limb_coord x i * limb_coord y ((i + d) % m) + choose (is_one_way k m d) 0 (limb_coord y i * limb_coord x ((i + d) % m))

-- what n rows from row `from` on add to coordinate i at slot r
abbrev pub rows_to : Method → ℕ → List ℕ → List ℕ → List ℕ → ℕ → ℕ → ℕ → ℕ → ℕ
rows_to k m table x y from n r i = sum n (λ d. slot_sum (reach m) (row m table (from + d)) (met_limbs k m (from + d) x y) r i)

-- "bits at m and above are 0"
abbrev pub Clear : ℕ → List ℕ → Type 0
Clear m x = (i : ℕ) → m ≤ i → limb_coord x i ≡ 0

-- coordinate i of the sum of all slots, slot r moved up r, and of what comes round at m
abbrev pub gathered_at : ℕ → List ℕ → ℕ → ℕ
gathered_at m g i = total_at g i + total_at g (m + i)

-- coordinate i of what the reduced product adds to its rows: the products of the coordinates, turned one place
abbrev pub diagonal_at : Method → ℕ → List ℕ → List ℕ → ℕ → ℕ
diagonal_at Plain m x y i = 0
diagonal_at Reduced m x y i = limb_coord x (minus m i 1) * limb_coord y (minus m i 1)

-- the state that a step of the chain hands on: as the definition of the inverse has it and as the program carries it
abbrev pub chain_of : State → Chain
chain_of s = record { t = s.t.bytes; k = s.k; count = s.count }

abbrev pub state_of : ℕ → Chain → State
state_of m c = record { t = operand_of m c.t; k = c.k; count = c.count }

-- what a step takes for granted of a state, and of its scratch
pub record Ready (m : ℕ) (table : List ℕ) (s : State) (g : List ℕ) : Type 0 where
  pub shaped : Shaped m table
  pub power : Sound m s.t
  pub small : s.k < max_width
  pub few : s.count < max_width
  pub there : HasSlots g

-- t := (t turned j)·b, and the k and the count that go with it
abbrev pub stepped : ℕ → List ℕ → ℕ → List ℕ → List ℕ → ℕ → ℕ → State
stepped m table j t b k count = record { t = operand_of m (product m table (turned m j t) b); k = k; count = count }

-- the state after the digit before the `unread` last ones of m - 1, whose doubling is done, and after those
abbrev pub added_from : ℕ → List ℕ → List ℕ → ℕ → Chain → State
added_from m table a unread s = state_of m (digits m table a (m - 1) unread (adding m table a ((m - 1) / 2 ^ unread % 2) s))

-- an inverse without fault
abbrev pub inverted_by : ℕ → List ℕ → List ℕ → Inverted
inverted_by m table a = counted m (inverse m table a) (products_made m table a)

-- `unread` digits of m - 1 are left, and `owed`, 0 or 1, is the digit before them if it has yet to be added
pub record Underway (m : ℕ) (table : List ℕ) (a : Operand) (s : State) (unread owed : ℕ) : Type 0 where
  pub shaped : Shaped m table
  pub base : Sound m a
  pub power : Sound m s.t
  -- k is the number that the digits read so far make
  pub reached : s.k + owed ≡ (m - 1) / 2 ^ unread
  pub short : 2 ^ unread ≤ max_width
  -- at most two products for each digit
  pub few : s.count + owed + 2 * unread ≤ max_width
