-- "Four tables are carried in the program itself": those of widths 2 to 5.
use Rattle.std.specs.Prelude.{List, [], ◌∷◌, ℕ}
use Rattle.table.specs.declared.carried.Carried.{Carried}
use Rattle.table.specs.declared.carried.Carried.TheVariants.{Two, Three, Four, Five}

-- "2: 02 03"
abbrev pub carried2 : List ℕ
carried2 = 0x02 ∷ 0x03 ∷ []

-- "3: 02 05 06"
abbrev pub carried3 : List ℕ
carried3 = 0x02 ∷ 0x05 ∷ 0x06 ∷ []

-- "4: 02 08 0F 04"
abbrev pub carried4 : List ℕ
carried4 = 0x02 ∷ 0x08 ∷ 0x0F ∷ 0x04 ∷ []

-- "5: 02 09 18 06 14"
abbrev pub carried5 : List ℕ
carried5 = 0x02 ∷ 0x09 ∷ 0x18 ∷ 0x06 ∷ 0x14 ∷ []

-- "those of widths 2 to 5"
abbrev pub carried_width : Carried → ℕ
carried_width Two = 2
carried_width Three = 3
carried_width Four = 4
carried_width Five = 5

abbrev pub carried_table : Carried → List ℕ
carried_table Two = carried2
carried_table Three = carried3
carried_table Four = carried4
carried_table Five = carried5
