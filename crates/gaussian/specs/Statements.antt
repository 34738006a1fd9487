-- What is proved of the list of types, of the two orders in which a type is chosen and of drawn tables: the statements alone.
use Rattle.std.specs.Prelude.{◌≡◌, ◌↔◌, ◌⊎◌, List, [], ◌∷◌, ℕ, ◌-◌, ◌*◌, ◌^◌, ◌<◌, ◌≤◌}
use Rattle.std.specs.Int.{◌∣◌}
use Rattle.gf2.specs.Operands.{max_width, bytes_for, from_coords}
use Rattle.gf2.specs.Tables.{IsTable, row}
use Rattle.table.specs.Carried.{carried2, carried3, carried4, carried5}
use Rattle.gaussian.specs.Types.{modulus, IsType, LeastType, AnsiType, type_of}
use Rattle.gaussian.specs.Table.{row_coord, drawn}

-- what the list's entry t says of the width m
pub record Listed (m t : ℕ) : Type 0 where
  -- document 02, (e): "The fixed list follows that order."
  pub chosen : ¬ (t ≡ 0) → AnsiType m t
  -- "or 0 exactly where 8 divides m"
  pub none : (t ≡ 0) ↔ (8 ∣ m)
  -- and there no T at all is a type
  pub never : 8 ∣ m → (s : ℕ) → ¬ IsType m s

-- "A fixed list holds the type of each width 2 to 571"
abbrev pub TypeList : Type 0
TypeList = (m : ℕ) → 2 ≤ m → m ≤ max_width → Listed m (type_of m)

-- x stands in a list
abbrev pub Among : ℕ → List ℕ → Type 0
Among x [] = ⊥
Among x (y ∷ ys) = (x ≡ y) ⊎ Among x ys

-- the widths of the list that have both types
abbrev pub both_types : List ℕ
both_types = 2 ∷ 18 ∷ 210 ∷ 378 ∷ []

-- the two orders of choice
pub record TypeOrders : Type 0 where
  -- for widths of any size X9.62's order chooses a type, and one alone
  pub is_type : (m t : ℕ) → AnsiType m t → IsType m t
  pub only : (m s t : ℕ) → AnsiType m s → AnsiType m t → s ≡ t
  -- it is the least but where 1 and 2 both are types, and there it is 2 and the least is 1
  pub same : (m t : ℕ) → AnsiType m t → ¬ (IsType m 1 × IsType m 2) → LeastType m t
  pub other : (m t : ℕ) → AnsiType m t → IsType m 1 × IsType m 2 → (t ≡ 2) × LeastType m 1
  -- from 2 to 571 these are four widths
  pub both : (m : ℕ) → 2 ≤ m → m ≤ max_width → (IsType m 1 × IsType m 2) ↔ Among m both_types
  -- at width 2 the two types give one table
  pub table2 : drawn 2 1 ≡ drawn 2 2

-- p "fits": 32 bits hold it, and 64 the product of any two residues modulo p
pub record ModulusFits (p : ℕ) : Type 0 where
  pub held : p < 2 ^ 32
  pub multiplied : (p - 1) * (p - 1) < 2 ^ 64

-- document 02, (c): "every p of the list fits"
abbrev pub ModuliFit : Type 0
ModuliFit = (m : ℕ) → 2 ≤ m → m ≤ max_width → ModulusFits (modulus m (type_of m))

-- "A table is m rows, each an operand of W bytes, m·W in all. Row d holds the coordinates ..": for any m and T
pub record DrawnTable (m t : ℕ) : Type 0 where
  pub is_table : IsTable m (drawn m t)
  pub rows : (d : ℕ) → d < m → row m (drawn m t) d ≡ from_coords (bytes_for m) m (row_coord (modulus m t) t d)

-- "Four tables are carried in the program itself": those that are drawn for their widths
pub record DrawnCarried : Type 0 where
  pub width2 : drawn 2 (type_of 2) ≡ carried2
  pub width3 : drawn 3 (type_of 3) ≡ carried3
  pub width4 : drawn 4 (type_of 4) ≡ carried4
  pub width5 : drawn 5 (type_of 5) ≡ carried5
