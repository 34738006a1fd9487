-- The causes of a card's faults: "a card is judged in byte order, 11 following its width".
-- Each cause says what stands well before it, by the rules by which a card is written, and what does not.
use Rattle.std.specs.Prelude.{◌≡◌, ◌↔◌, ◌⊎◌, List, [], ◌∷◌, ◌++◌, ℕ, zero, suc, ◌+◌, ◌*◌, ◌<◌, ◌≤◌, length, Ok, Err}
use Rattle.gf2.specs.Operands.{max_width, bytes_for, IsOperand}
use Rattle.gf2.specs.Tables.{IsTable}
use Rattle.judging.specs.declared.fault.Fault.{Fault}
use Rattle.judging.specs.declared.fault.Fault.TheVariants.{Width, Call}
use Rattle.judging.specs.declared.fault.CallFault.TheVariants.{OutputShort}
use Rattle.card.specs.Numbers.{number, number_limit}
use Rattle.card.specs.Rows.{steps, row_card}
use Rattle.card.specs.Cards.{card}
use Rattle.judging.specs.Causes.{Verdict}
use Rattle.judging.specs.FaultTable.{BadWidth}
use Rattle.judging.specs.Faults.{card_ends, card_number, card_form, card_place, card_tail}

-- "Numbers are in seven-bit groups, .. shortest form, at most two groups": the number n stands in s before the rest
pub record Stands (n : ℕ) (s rest : List ℕ) : Type 0 where
  pub small : n < number_limit
  pub written : s ≡ number n ++ rest

-- no number stands in front of s, and f is the fault
pub data BadNumber (s : List ℕ) (f : Fault) : Type 0 where
  -- 12: "card ends early"
  no_group : s ≡ [] → f ≡ card_ends → BadNumber s f
  -- 12: "high bit set when another follows", and none does
  no_second : (low : ℕ) → 128 ≤ low → s ≡ low ∷ [] → f ≡ card_ends → BadNumber s f
  -- 13: "card number not shortest, or third group"
  bad_second : (low high : ℕ) (rest : List ℕ) → 128 ≤ low → s ≡ low ∷ high ∷ rest → (high ≡ 0) ⊎ (128 ≤ high) → f ≡ card_number → BadNumber s f

-- places of a row, each `free` or above and above those before it, all below m
abbrev pub Ordered : ℕ → ℕ → List ℕ → Type 0
Ordered m free [] = Unit
Ordered m free (p ∷ ps) = (free ≤ p) × (p < m) × Ordered m (p + 1) ps

-- the least place after these
abbrev pub free_after : ℕ → List ℕ → ℕ
free_after free [] = free
free_after free (p ∷ ps) = free_after (p + 1) ps

-- no place stands in front of s, where the places before it leave those from `free` on
pub data BadPlace (m free : ℕ) (s : List ℕ) (f : Fault) : Type 0 where
  no_place : BadNumber s f → BadPlace m free s f
  -- 15: "place m or above"
  place_above : (gap : ℕ) (rest : List ℕ) → Stands gap s rest → m ≤ free + gap → f ≡ card_place → BadPlace m free s f

-- no row stands in front of s: "its number of ones, the first place, and for each further one its place minus the previous minus 1"
pub data BadRow (m : ℕ) (s : List ℕ) (f : Fault) : Type 0 where
  no_count : BadNumber s f → BadRow m s f
  -- 15: "count above m"
  count_above : (n : ℕ) (rest : List ℕ) → Stands n s rest → m < n → f ≡ card_place → BadRow m s f
  -- some places stand, fewer than were counted, and the next does not
  at_place : (n : ℕ) (middle : List ℕ) (ps rest : List ℕ) → Stands n s middle → n ≤ m → length ps < n → Ordered m 0 ps →
      middle ≡ steps 0 ps ++ rest → BadPlace m (free_after 0 ps) rest f → BadRow m s f

-- d rows stand in s before the rest
abbrev pub RowsStand : ℕ → ℕ → List ℕ → List ℕ → Type 0
RowsStand m zero s rest = s ≡ rest
RowsStand m (suc d) s rest =
    (x : List ℕ) × (middle : List ℕ) × IsOperand (bytes_for m) m x × (s ≡ row_card m x ++ middle) × RowsStand m d middle rest

-- "form 1, m" stand in s before the rest, m is 2..571, and a table of width m has room
pub record HeadStands (room : ℕ) (s : List ℕ) (m : ℕ) (rest : List ℕ) : Type 0 where
  pub middle : List ℕ
  pub form : Stands 1 s middle
  pub width : Stands m middle rest
  pub least : 2 ≤ m
  pub greatest : m ≤ max_width
  pub fits : m * bytes_for m ≤ room

-- s is no card, for a lent table of `room` bytes, and f is the fault
pub data BadCard (room : ℕ) (s : List ℕ) (f : Fault) : Type 0 where
  no_form : BadNumber s f → BadCard room s f
  -- 14: "form not 1"
  other_form : (form : ℕ) (rest : List ℕ) → Stands form s rest → ¬ (form ≡ 1) → f ≡ card_form → BadCard room s f
  no_width : (rest : List ℕ) → Stands 1 s rest → BadNumber rest f → BadCard room s f
  -- 1: "width not 2..571"
  bad_width : (m : ℕ) (middle rest : List ℕ) → Stands 1 s middle → Stands m middle rest → BadWidth m → f ≡ Width → BadCard room s f
  -- 11: "lent output shorter than needed"
  no_room : (m : ℕ) (middle rest : List ℕ) → Stands 1 s middle → Stands m middle rest → (2 ≤ m) × (m ≤ max_width) →
      room < m * bytes_for m → f ≡ (Call OutputShort) → BadCard room s f
  -- some rows stand, fewer than m, and the next does not
  at_row : (m d : ℕ) (middle rest : List ℕ) → HeadStands room s m middle → d < m → RowsStand m d middle rest → BadRow m rest f → BadCard room s f
  -- 16: "bytes after the card"
  bytes_after : (m b : ℕ) (middle rest : List ℕ) → HeadStands room s m middle → RowsStand m m middle (b ∷ rest) → f ≡ card_tail → BadCard room s f

-- s is the card of a table of width m that has room
pub record GoodCard (room : ℕ) (s : List ℕ) (m : ℕ) (table : List ℕ) : Type 0 where
  pub least : 2 ≤ m
  pub greatest : m ≤ max_width
  pub fits : m * bytes_for m ≤ room
  pub is_table : IsTable m table
  pub is_card : s ≡ card m table

-- A fault is given exactly when its cause holds; none is given exactly when s is a card.
pub record ExactCard (room : ℕ) (s : List ℕ) (verdict : Verdict) : Type 0 where
  pub given : (f : Fault) → (verdict ≡ Err f) ↔ BadCard room s f
  pub none : (verdict ≡ Ok tt) ↔ ((m : ℕ) × (table : List ℕ) × GoodCard room s m table)
