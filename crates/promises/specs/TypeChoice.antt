-- Document 02, (e), over the calls that know types: the choice of ANSI X9.62. That drawn tables go by it is demand 2's `drawn`.
use Rattle.std.specs.Prelude.{◌≡◌, ◌↔◌, List, ℕ, ◌*◌, ◌≤◌, length, Ok, Err}
use Rattle.std.specs.Int.{◌∣◌}
use Rattle.gf2.specs.Operands.{max_width, bytes_for}
use Rattle.judging.specs.declared.fault.Fault.TheVariants.{Call}
use Rattle.judging.specs.declared.fault.CallFault.TheVariants.{NoType}
use Rattle.judging.specs.Causes.{judged}
use Rattle.gaussian.specs.Types.{IsType, LeastType, AnsiType, type_of}
use Rattle.gaussian.specs.Table.{drawn}
use Rattle.gaussian.specs.Causes.{type_causes}
use Rattle.gaussian.specs.Calls.{draw_verdict, drawn_into}
use Rattle.gaussian.specs.Statements.{Among, both_types}

pub record TypeChoice : Type 0 where
  -- "that takes type 2 where one exists, then type 1, then the least T. The fixed list follows that order.": where nb_type gives no fault,
  -- its T is this choice, and no other number is
  pub chosen : (m : ℕ) → judged (type_causes m) ≡ Ok tt → AnsiType m (type_of m)
  pub only : (m t : ℕ) → judged (type_causes m) ≡ Ok tt → AnsiType m t → t ≡ type_of m
  -- it is the least T, which was the choice before, at all widths but 2, 18, 210 and 378; there it is 2, and the least is 1
  pub same : (m : ℕ) → judged (type_causes m) ≡ Ok tt → ¬ Among m both_types → LeastType m (type_of m)
  pub other : (m : ℕ) → Among m both_types → (type_of m ≡ 2) × LeastType m 1
  -- "Width 18 has both types 1 and 2"
  pub both18 : IsType 18 1 × IsType 18 2
  -- "and now draws type 2."
  pub type18 : type_of 18 ≡ 2
  pub draws18 : (old : List ℕ) → length old ≡ 18 * bytes_for 18 → (draw_verdict 18 (length old) ≡ Ok tt) × (drawn_into 18 old ≡ drawn 18 2)
  -- width 2, which has both too, draws the table that it drew
  pub draws2 : (old : List ℕ) → length old ≡ 2 * bytes_for 2 → (draw_verdict 2 (length old) ≡ Ok tt) × (drawn_into 2 old ≡ drawn 2 1)
  -- "and 17 still falls exactly where 8 divides m.": among the widths, and in drawing among the buffers of m·W bytes
  pub seventeen : (m : ℕ) → (judged (type_causes m) ≡ Err (Call NoType)) ↔ ((2 ≤ m) × (m ≤ max_width) × (8 ∣ m))
  pub draw_seventeen : (m : ℕ) (old : List ℕ) →
      (draw_verdict m (length old) ≡ Err (Call NoType)) ↔ ((2 ≤ m) × (m ≤ max_width) × (length old ≡ m * bytes_for m) × (8 ∣ m))
