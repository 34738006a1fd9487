-- Tables without fault of shape: their rows, as they lie in the table and carried.
-- shape-none, shape-rows, shaped, shape-fine: no fault of shape is given exactly where a table whose rows are bytes is shaped.
-- row-bytes: the rows of a list of bytes are bytes.
use Rattle.std.specs.Prelude.{Ok, Err}
use mathlib.Core.Path.{◌≡◌, refl, sym, ap, ◌∙◌}
use mathlib.Core.Logic.{◌↔◌}
use mathlib.Core.Bool.{Bool, true, false, not, true≢false}
use mathlib.Core.List.{List, [], ◌∷◌}
use Prim.Native.Nat.{ℕ, zero, suc, ◌+◌, ◌-◌, ◌*◌, ◌/◌, ◌%◌, ◌^◌, ◌<◌, ◌≤◌}
use native.Mathlib.Nat.{suc-mul, mul-le-mul_right, min-le_left, le_trans, lt_of_le_of_lt, lt_of_lt_of_le, div-eq_of_lt, zero-div}
use native.Mathlib.Decide.{dec_lt}
use native.Mathlib.Omega.{arith}
use lib.ListN.{length, get_or, take, drop, length-drop, length-take, get_or-eq_default}
use lib.Pow.{shr-shr, shr_le, pow_mono}
use lib.Seq.{length-take-le, get_or-take, get_or-drop}
use Rattle.std.proofs.lemmas.List.{drop_all}
use Rattle.gf2.specs.Sums.{sum, every}
use Rattle.gf2.specs.Coordinates.{coord, value}
use Rattle.gf2.specs.Operands.{max_width, bytes_for, carried_bytes, IsOperand, is_clear}
use Rattle.gf2.specs.Tables.{row}
use Rattle.gf2.proofs.Parity.{bool-ext}
use Rattle.gf2.proofs.Sums.{every-at, every_of}
use Rattle.gf2.proofs.Coordinates.{coord-past, coord-digit, value-eq}
use Rattle.gf2.proofs.Operands.{clear_at, clear_of}
use Rattle.judging.specs.declared.fault.Fault.TheVariants.{HighBit}
use Rattle.judging.specs.Causes.{Cause, judged}
use Rattle.judging.specs.FaultTable.{bad_width, not_table, high_bit_in_row, shape_causes}
use Rattle.judging.proofs.CauseLaws.{Fine, fine, none-given, head-holds}
use Rattle.judging.proofs.Passed.{IsWidth, is-width, width-passes, as-laid-down, length-passes, are-clear, rows_pass}
use Rattle.limbs.proofs.ByteLists.{Bytes}
use Rattle.limbs.proofs.LimbLoops.{ored, ored-at, ored-of, ored-shr}
use Rattle.gf2.proofs.Carrying.{carried-operand}
use Rattle.table.specs.Rows.{Shaped}
use Rattle.table.specs.Inner.{carried_row}
use Rattle.table.specs.Judgements.{shape_verdict}

-- 1 and 2 of a table
abbrev pub size_causes : ℕ → List ℕ → List Cause
size_causes m t = bad_width m ∷ not_table m t ∷ []

-- and what has passed where they give no fault
pub record Sized (m size : ℕ) : Type 0 where
  pub least : 2 ≤ m
  pub greatest : m ≤ max_width
  pub exact : size ≡ m * bytes_for m

pub size-fine : (m : ℕ) (t : List ℕ) → judged (size_causes m t) ≡ Ok tt → Sized m (length t)
size-fine m t e =
    let p = fine (size_causes m t) e in
    let w = is-width m p.0 in
    record { least = w.least; greatest = w.greatest; exact = as-laid-down _ _ p.1.0 }

pub width_of : {m : ℕ} {t : List ℕ} → Shaped m t → IsWidth m
width_of s = record { least = s.least; greatest = s.greatest }

pub sized : {m : ℕ} {t : List ℕ} → Shaped m t → Sized m (length t)
sized s = record { least = s.least; greatest = s.greatest; exact = s.is_table.size }

module _ (m d : ℕ) (t : List ℕ) (h : length t ≡ m * bytes_for m) (l : d < m) where
  pub row_within : d * bytes_for m + bytes_for m ≤ length t
  row_within = rw (h, ← suc-mul) (mul-le-mul_right (bytes_for m) l)

  pub row-length : length (row m t d) ≡ bytes_for m
  unfolding row
  row-length = length-take-le _ _ (rw length-drop (omega (arith, row_within)))

  pub row-get_or : (b : ℕ) → b < bytes_for m → get_or (row m t d) b 0 ≡ get_or t (d * bytes_for m + b) 0
  unfolding row
  row-get_or b q = rw (get_or-take {A = ℕ} (bytes_for m) (drop (d * bytes_for m) t) b 0 q, get_or-drop)

-- row d as the code takes it from the table: by the number of bytes that it was given
pub row_fits : {m : ℕ} {t : List ℕ} → Shaped m t → (d : ℕ) → d < m → {n : ℕ} → n ≡ bytes_for m → d * n + n ≤ length t
row_fits {m} {t} s d l e = rw e (row_within m d t s.is_table.size l)

pub row-part : (m : ℕ) (t : List ℕ) (d : ℕ) {n : ℕ} → n ≡ bytes_for m → take (d * n + n - d * n) (drop (d * n) t) ≡ row m t d
unfolding row
row-part m t d {n} e = let k : d * n + n - d * n ≡ n = omega arith in rw (k, e)

take-none : (n : ℕ) → [] ≡ take {A = ℕ} n []
take-none zero = refl
take-none (suc n) = refl

-- there is none past the last
pub row-none : {m : ℕ} {t : List ℕ} → Shaped m t → (d : ℕ) → m ≤ d → [] ≡ row m t d
unfolding row
row-none {m} {t} s d h = let l : length t ≤ d * bytes_for m = rw s.is_table.size (mul-le-mul_right (bytes_for m) h) in rw (drop_all (d * bytes_for m) t l) (take-none (bytes_for m))

past_end : (l : List ℕ) (b : ℕ) → length l ≤ b → get_or l b 0 < 256
past_end l b h = rw (get_or-eq_default l 0 {n = b} h) (omega arith)

pub row-bytes : (m d : ℕ) (t : List ℕ) → Bytes t → Bytes (row m t d)
unfolding row
row-bytes m d t small b = elim (dec_lt b (bytes_for m)) [
  | yes q ↦ rw (get_or-take {A = ℕ} (bytes_for m) (drop (d * bytes_for m) t) b 0 q, get_or-drop) (small _)
  | no q ↦ past_end (row m t d) b (rw length-take (le_trans (min-le_left _ _) (omega arith)))
]

pub row-short : (m d : ℕ) (t : List ℕ) → Sized m (length t) → d < m → length (row m t d) ≤ carried_bytes
row-short m d t s l = let g = s.greatest in omega (arith, row-length m d t s.exact l)

-- a row of a table, carried
module _ {m : ℕ} {t : List ℕ} (s : Shaped m t) (d : ℕ) (l : d < m) where
  pub row-operand : IsOperand carried_bytes m (carried_row m t d)
  row-operand = let g = s.greatest in carried-operand (omega arith) (s.is_table.rows d l)

  -- it may be turned
  pub row-turns : {x : List ℕ} → x ≡ carried_row m t d → (2 ≤ m) × (m ≤ max_width) × IsOperand carried_bytes m x
  row-turns e = (s.least, s.greatest, rw e row-operand)

-- the fault of shape, row after row
module _ (m : ℕ) (t : List ℕ) where
  abbrev pub clear_row : ℕ → Bool
  clear_row d = is_clear m (row m t d)

  pub rows-done : every m clear_row ≡ true → judged (high_bit_in_row m t ∷ []) ≡ Ok tt
  rows-done e = none-given (high_bit_in_row m t ∷ []) (rows_pass m t e, tt)

-- the bits at m and above of m/8 bytes, rounded up
module _ (m : ℕ) (x : List ℕ) (size : length x ≡ bytes_for m) where
  pub clear_whole : m % 8 ≡ 0 → is_clear m x ≡ true
  clear_whole e = clear_of m x (λ i l. coord-past x i (omega (arith, size)))

  clear-end : get_or x (m / 8) 0 / 2 ^ (m % 8) ≡ 0 → is_clear m x ≡ true
  clear-end e = clear_of m x (λ i l. elim (dec_lt i (8 * length x)) [
    | yes q ↦ let d : i ≡ m / 8 * 8 + (i - m / 8 * 8) = omega arith in
        let k : i - m / 8 * 8 ≡ m % 8 + (i - m / 8 * 8 - m % 8) = omega arith in
        ap (coord x) d ∙ coord-digit x (m / 8) (i - m / 8 * 8) (omega (arith, size))
        ∙ ap (λ n. get_or x (m / 8) 0 / 2 ^ n % 2) k
        ∙ ap (λ y. y % 2) (sym (shr-shr (get_or x (m / 8) 0) (m % 8) (i - m / 8 * 8 - m % 8)) ∙ ap (λ y. y / 2 ^ (i - m / 8 * 8 - m % 8)) e ∙ zero-div _)
    | no q ↦ coord-past x i (omega arith)
  ])

  clear-last : Bytes x → is_clear m x ≡ true → get_or x (m / 8) 0 / 2 ^ (m % 8) ≡ 0
  clear-last small e = value-eq 8 (λ j. 0) _ (lt_of_le_of_lt (shr_le (get_or x (m / 8) 0) (m % 8)) (small (m / 8))) bits ∙ (unfold value sum in refl)
    where
      bits : (j : ℕ) → j < 8 → get_or x (m / 8) 0 / 2 ^ (m % 8) / 2 ^ j % 2 ≡ 0
      bits j l = ap (λ y. y % 2) (shr-shr (get_or x (m / 8) 0) (m % 8) j) ∙ elim (dec_lt (m % 8 + j) 8) [
        | yes q ↦ sym (coord-digit x (m / 8) (m % 8 + j) q) ∙ clear_at m x e (m / 8 * 8 + (m % 8 + j)) (omega arith)
        | no q ↦ ap (λ y. y % 2) (div-eq_of_lt (lt_of_lt_of_le (small (m / 8)) (pow_mono {i = 8} (omega arith))))
      ]

-- the last byte of row d, where the width is no multiple of 8
abbrev pub last_byte : ℕ → List ℕ → ℕ → ℕ
last_byte m t d = get_or t (d * bytes_for m + m / 8) 0

module _ (m : ℕ) (t : List ℕ) (size : length t ≡ m * bytes_for m) (part : m % 8 ≡ 0 → ⊥) where
  pub last_within : (d : ℕ) → d < m → d * bytes_for m + m / 8 < length t
  last_within d l = omega (arith, row_within m d t size l)

  last_row : (d : ℕ) → d < m → get_or (row m t d) (m / 8) 0 / 2 ^ (m % 8) ≡ last_byte m t d / 2 ^ (m % 8)
  last_row d l = ap (λ y. y / 2 ^ (m % 8)) (row-get_or m d t size l (m / 8) (omega arith))

  -- the last bytes together tell whether some row has a bit at m or above
  pub ends-clear : ored m (last_byte m t) / 2 ^ (m % 8) ≡ 0 → judged (high_bit_in_row m t ∷ []) ≡ Ok tt
  ends-clear e = rows-done m t (every_of m (clear_row m t) (λ d l.
      clear-end m (row m t d) (row-length m d t size l) (last_row d l ∙ ored-at m _ (sym (ored-shr m (last_byte m t) (m % 8)) ∙ e) d l)))

  pub ends-broken : Bytes t → (ored m (last_byte m t) / 2 ^ (m % 8) ≡ 0 → ⊥) → judged (high_bit_in_row m t ∷ []) ≡ Err HighBit
  ends-broken small n = head-holds (high_bit_in_row m t) [] (ap not (bool-ext (every m (clear_row m t)) false (λ e. absurd (n (each e))) (λ e. absurd (true≢false (sym e)))))
    where
      each : every m (clear_row m t) ≡ true → ored m (last_byte m t) / 2 ^ (m % 8) ≡ 0
      each e = ored-shr m (last_byte m t) (m % 8) ∙ ored-of m _ (λ d l.
          sym (last_row d l) ∙ clear-last m (row m t d) (row-length m d t size l) (row-bytes m d t small) (every-at m (clear_row m t) e d l))

module _ {m : ℕ} {t : List ℕ} where
  pub shape-passes : Shaped m t → Fine (shape_causes m t)
  shape-passes s = (
    width-passes m (width_of s),
    (length-passes _ _ s.is_table.size, (rows_pass m t (every_of m _ (λ d l. clear_of m _ (s.is_table.rows d l).clear)), tt)),
  )

  pub shape-none : Shaped m t → shape_verdict m t ≡ Ok tt
  shape-none s = none-given (shape_causes m t) (shape-passes s)

  pub shape-rows : ((d : ℕ) → d < m → Bytes (row m t d)) → Fine (shape_causes m t) → Shaped m t
  shape-rows small p =
      let w = is-width m p.0 in
      let size = as-laid-down _ _ p.1.0 in
      let clear = are-clear m t p.1.1.0 in
      record {
        least = w.least;
        greatest = w.greatest;
        is_table = record {
          size = size;
          rows = λ d l. record { size = row-length m d t size l; byte = small d l; clear = clear_at m _ (every-at m (clear_row m t) clear d l) };
        };
      }

  -- what judging the shape has shown
  pub shaped : Bytes t → shape_verdict m t ≡ Ok tt → Shaped m t
  shaped small e = shape-rows (λ d l. row-bytes m d t small) (fine (shape_causes m t) e)

pub shape-fine : (m : ℕ) (t : List ℕ) → Bytes t → (shape_verdict m t ≡ Ok tt) ↔ Shaped m t
shape-fine m t small = (shaped small, shape-none)
