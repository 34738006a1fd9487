-- Laws of rows and cards that are written and read.
-- Ranges: the bytes of a range of rows, row by row, and stored at their own place.
-- Rows: a range written is read as it was; a range read is written as it was, and its rows are operands.
-- Cards: a table's card is read as the table; a card read is the card of its table.
use Rattle.std.specs.Prelude.{Ok, Err}
use mathlib.Core.Path.{◌≡◌, refl, sym, ap, ◌∙◌}
use mathlib.Core.List.{List, [], ◌∷◌, ◌++◌, append_assoc, append-nil}
use Prim.Native.Nat.{ℕ, zero, suc, ◌+◌, ◌-◌, ◌*◌, ◌<◌, ◌≤◌}
use native.Mathlib.Nat.{zero-mul, suc-mul, add-mul, mul-le-mul_right}
use native.Mathlib.Numerals.{add-one}
use native.Mathlib.Omega.{arith}
use lib.ListN.{length, take, drop, length-append, length-drop, take-append-drop}
use lib.Seq.{sets, sets-eq, take-add, take_all, take-take, take_at, take-append-le, length-take-le, drop_at, drop-drop, drop-append-add, drop-append-le}
use lib.Dec.{eqb}
use borrow.Author.Tests.{eqb-true}
use Rattle.gf2.specs.Operands.{max_width, bytes_for, IsOperand, choose}
use Rattle.gf2.specs.Tables.{row, IsTable}
use Rattle.gf2.proofs.Operands.{from-operand, length_from}
use Rattle.judging.specs.Faults.{card_form}
use Rattle.judging.specs.Causes.{Verdict}
use Rattle.judging.proofs.CauseLaws.{fine, none-given}
use Rattle.judging.proofs.Passed.{is-width, width-passes, has_room, room-passes}
use Rattle.card.specs.Numbers.{number, Read, refused, got, read_number}
use Rattle.card.specs.Rows.{rows_card, row_range, after, read_row, row_of, is_place, read_rows}
use Rattle.card.specs.Cards.{card, lent_causes, lent_verdict, read_width, read_head, Table, ended, read_card}
use Rattle.card.specs.Statements.{Bytes}
use Rattle.card.specs.Cards as Cards
use Rattle.card.proofs.Numbers.{no_value, parts, passed, read-written, written_read_lem}
use Rattle.card.proofs.Places.{row-of-ones, row_read, after-got, row_written}

module _ (m : ℕ) (table : List ℕ) (start : ℕ) where
  range_none : row_range m table start 0 ≡ []
  unfolding row_range
  range_none = rw zero-mul

  range_split : (count : ℕ) → row_range m table start (suc count) ≡ take (bytes_for m + count * bytes_for m) (drop (start * bytes_for m) table)
  unfolding row_range
  range_split count =
      let e : suc count * bytes_for m ≡ bytes_for m + count * bytes_for m = omega (arith, suc-mul count (bytes_for m)) in
      rw e

  range-more : (count : ℕ) → row_range m table start (suc count) ≡ row m table start ++ row_range m table (start + 1) count
  unfolding row_range row
  range-more count =
      let e : (start + 1) * bytes_for m ≡ start * bytes_for m + bytes_for m = rw add-one (suc-mul start (bytes_for m)) in
      range_split count
      ∙ take-add (bytes_for m) (count * bytes_for m) (drop (start * bytes_for m) table)
      ∙ rw (drop-drop, e)

  -- the first row of a range
  range-first : (count : ℕ) → take (bytes_for m) (row_range m table start (suc count)) ≡ row m table start
  unfolding row
  range-first count = rw (range_split count) (take-take (bytes_for m) (bytes_for m + count * bytes_for m) (drop (start * bytes_for m) table) (omega arith))

pub range_all : (m : ℕ) (table : List ℕ) → length table ≡ m * bytes_for m → row_range m table 0 m ≡ table
unfolding row_range
range_all m table h = rw zero-mul (take_all (m * bytes_for m) table (omega arith))

-- a row within the front of a list
front-row : (w k : ℕ) (x y : List ℕ) → k + w ≤ length x → take w (drop k (x ++ y)) ≡ take w (drop k x)
front-row w k x y h =
    ap (take w) (drop-append-le k x y (omega arith)) ∙ take-append-le w (drop k x) y (omega (arith, length-drop k x))

-- the rows of a range, stored at their own place, are those of the table
module _ (m : ℕ) (table old : List ℕ) (start count : ℕ) (has : (start + count) * bytes_for m ≤ length table) (fits : (start + count) * bytes_for m ≤ length old) where
  both-parts : (start + count) * bytes_for m ≡ start * bytes_for m + count * bytes_for m
  both-parts = add-mul start count (bytes_for m)

  range_size : length (row_range m table start count) ≡ count * bytes_for m
  unfolding row_range
  range_size = length-take-le (count * bytes_for m) (drop (start * bytes_for m) table) (omega (arith, length-drop (start * bytes_for m) table, both-parts))

  range-rest : drop (start * bytes_for m) table ≡ row_range m table start count ++ drop (count * bytes_for m) (drop (start * bytes_for m) table)
  unfolding row_range
  range-rest = sym (take-append-drop (count * bytes_for m) (drop (start * bytes_for m) table))

  -- row d of a list in which the range starts at its own place
  range-row : (d : ℕ) → start ≤ d → d < start + count → (l rest : List ℕ) → drop (start * bytes_for m) l ≡ row_range m table start count ++ rest →
      row m l d ≡ take (bytes_for m) (drop ((d - start) * bytes_for m) (row_range m table start count))
  unfolding row
  range-row d low high l rest e =
      let split : start + (d - start) ≡ d = omega arith in
      let at : start * bytes_for m + (d - start) * bytes_for m ≡ d * bytes_for m = sym (add-mul start (d - start) (bytes_for m)) ∙ ap (λ k. k * bytes_for m) split in
      let within : (d - start) * bytes_for m + bytes_for m ≤ count * bytes_for m = rw (← suc-mul) (mul-le-mul_right {m = suc (d - start)} {n = count} (bytes_for m) (omega arith)) in
      ap (λ k. take (bytes_for m) (drop k l)) (sym at) ∙ ap (take (bytes_for m)) (sym (drop-drop ((d - start) * bytes_for m) (start * bytes_for m) l))
      ∙ ap (λ s. take (bytes_for m) (drop ((d - start) * bytes_for m) s)) e
      ∙ front-row (bytes_for m) ((d - start) * bytes_for m) (row_range m table start count) rest (omega (arith, range_size))

  pub rows-placed : (d : ℕ) → start ≤ d → d < start + count → row m (sets old (start * bytes_for m) (row_range m table start count)) d ≡ row m table d
  rows-placed d low high =
      let range = row_range m table start count in
      let i = start * bytes_for m in
      let front : length (take i old) ≡ i = length-take-le i old (omega (arith, both-parts)) in
      let stored : drop i (sets old i range) ≡ range ++ drop (i + length range) old =
      ap (drop i) (sets-eq range old i (omega (arith, range_size, both-parts)) ∙ append_assoc (take i old) range (drop (i + length range) old)) ∙ drop_at (take i old) (range ++ drop (i + length range) old) i front in
      range-row d low high (sets old i range) _ stored
      ∙ sym (range-row d low high table _ range-rest)

pub rows-read : (m : ℕ) (table : List ℕ) (start count : ℕ) (rest : List ℕ) → m ≤ max_width →
    ((d : ℕ) → start ≤ d → d < start + count → IsOperand (bytes_for m) m (row m table d)) →
    read_rows m count (rows_card m table start count ++ rest) ≡ got (row_range m table start count) rest
unfolding read_rows rows_card
rows-read m table start zero rest h o = rw (range_none m table start)
rows-read m table start (suc count) rest h o = rw (
  append_assoc,
  row_read m (row m table start) (rows_card m table (start + 1) count ++ rest) (omega arith),
  rows-read m table (start + 1) count rest h (λ d l u. o d (omega arith) (omega arith)),
  row-of-ones (o start (omega arith) (omega arith)),
  range-more m table start count,
)

-- rows that were read: their bytes, and that bytes are left
pub record RowsAre (m : ℕ) (table : List ℕ) (start count : ℕ) (s rest : List ℕ) : Type 0 where
  pub are_rows : s ≡ rows_card m table start count ++ rest
  pub bytes : Bytes rest

-- a row and the rows after it, from the bytes of all
next-rows : (m : ℕ) (table : List ℕ) (start count : ℕ) (ps w : List ℕ) → row_range m table start (suc count) ≡ row_of m ps ++ w →
    (row m table start ≡ row_of m ps) × (row_range m table (start + 1) count ≡ w)
next-rows m table start count ps w e =
    let size = length_from (bytes_for m) m (is_place ps) in
    let first : row m table start ≡ row_of m ps = sym (range-first m table start count) ∙ ap (take (bytes_for m)) e ∙ take_at (row_of m ps) w (bytes_for m) size in
    let both : row_of m ps ++ row_range m table (start + 1) count ≡ row_of m ps ++ w = ap (λ x. x ++ row_range m table (start + 1) count) (sym first) ∙ sym (range-more m table start count) ∙ e in
    (first, sym (drop_at (row_of m ps) _ (bytes_for m) size) ∙ ap (drop (bytes_for m)) both ∙ drop_at (row_of m ps) w (bytes_for m) size)

pub rows_written : (m : ℕ) (table : List ℕ) (start count : ℕ) (s rest : List ℕ) → Bytes s →
    read_rows m count s ≡ got (row_range m table start count) rest → RowsAre m table start count s rest
unfolding read_rows rows_card
rows_written m table start zero s rest small e =
    let er : s ≡ rest = cc in
    record { are_rows = er; bytes = rw (← er) small }
rows_written m table start (suc count) s rest small e =
    let (ps, q, e1, e2) = parts (read_row m s) (λ ps r. after (row_of m ps) (read_rows m count r)) e in
    let (w, e3, e4) = after-got (row_of m ps) (read_rows m count q) e2 in
    let split = next-rows m table start count ps w e4 in
    let one = row_written m s ps q small e1 in
    let more = rows_written m table (start + 1) count q rest one.bytes (e3 ∙ ap (λ t. got t rest) (sym split.1)) in
    record {
      are_rows = one.is_row ∙ rw (split.0, append_assoc, ← more.are_rows);
      bytes = more.bytes;
    }

-- the table of rows that were read
pub record RowsTable (m count : ℕ) (t : List ℕ) : Type 0 where
  pub size : length t ≡ count * bytes_for m
  pub rows : (d : ℕ) → d < count → IsOperand (bytes_for m) m (row m t d)

pub row_first : (m : ℕ) (x t : List ℕ) → length x ≡ bytes_for m → row m (x ++ t) 0 ≡ x
unfolding row
row_first m x t h = rw zero-mul (take_at x t (bytes_for m) h)

pub row_next : (m : ℕ) (x t : List ℕ) (d : ℕ) → length x ≡ bytes_for m → row m (x ++ t) (suc d) ≡ row m t d
unfolding row
row_next m x t d h =
    let e : suc d * bytes_for m ≡ length x + d * bytes_for m = omega (arith, suc-mul d (bytes_for m)) in
    rw (e, drop-append-add)

pub rows-table : (m count : ℕ) (s t rest : List ℕ) → read_rows m count s ≡ got t rest → RowsTable m count t
unfolding read_rows
rows-table m zero s t rest e =
    let et : [] ≡ t = cc in
    rw (← et) (record { size = rw zero-mul; rows = λ d l. absurd (omega arith) })
rows-table m (suc count) s t rest e =
    let (ps, q, e1, e2) = parts (read_row m s) (λ ps r. after (row_of m ps) (read_rows m count r)) e in
    let (w, e3, e4) = after-got (row_of m ps) (read_rows m count q) e2 in
    let more = rows-table m count q w rest e3 in
    let size = length_from (bytes_for m) m (is_place ps) in
    rw e4 (record {
      size = rw (length-append, size, more.size, suc-mul) (omega arith);
      rows = λ d l. each ps w size more d l;
    })
  where
    each : (ps w : List ℕ) → length (row_of m ps) ≡ bytes_for m → RowsTable m count w → (d : ℕ) → d < suc count → IsOperand (bytes_for m) m (row m (row_of m ps ++ w) d)
    each ps w size more zero l = rw (row_first m (row_of m ps) w size) (from-operand (bytes_for m) m (is_place ps))
    each ps w size more (suc d) l = rw (row_next m (row_of m ps) w d size) (more.rows d (omega arith))

-- a width for which the lent table has room
pub record Lent (room m : ℕ) : Type 0 where
  pub least : 2 ≤ m
  pub greatest : m ≤ max_width
  pub fits : m * bytes_for m ≤ room

pub lent-fine : (room m : ℕ) → lent_verdict room m ≡ Ok tt → Lent room m
lent-fine room m e =
    let p = fine (lent_causes room m) e in
    let w = is-width m p.0 in
    record { least = w.least; greatest = w.greatest; fits = has_room _ _ p.1.0 }

pub lent_none : {room m : ℕ} → Lent room m → lent_verdict room m ≡ Ok tt
lent_none {room} {m} l =
    none-given (lent_causes room m) (width-passes m (record { least = l.least; greatest = l.greatest }), (room-passes room (m * bytes_for m) l.fits, tt))

pub card-read : (room m : ℕ) (table : List ℕ) → Lent room m → IsTable m table → read_card room (card m table) ≡ got (record { width = m; bytes = table }) []
unfolding read_card read_head read_width card
card-read room m table l t =
    let u = l.greatest in
    let rows : read_rows m m (rows_card m table 0 m) ≡ got table [] = rw (append-nil, range_all m table t.size) at (rows-read m table 0 m [] l.greatest (λ d a b. t.rows d (omega arith))) in
    rw (
      read-written 1 (number m ++ rows_card m table 0 m) (omega arith),
      read-written m (rows_card m table 0 m) (omega arith),
      lent_none l,
      rows,
    )

-- a verdict that has passed
verdict_passed : {A : Type 0} (v : Verdict) {a b : A} {s rest : List ℕ} → Cards.passed v a s ≡ got b rest → (v ≡ Ok tt) × (got a s ≡ got b rest)
verdict_passed (Ok u) e = (refl, e)
verdict_passed (Err f) e = no_value e

-- what a head without fault rests on
pub record HeadParts (room : ℕ) (s : List ℕ) (m : ℕ) (rest : List ℕ) : Type 0 where
  pub middle : List ℕ
  pub form : read_number s ≡ got 1 middle
  pub width : read_number middle ≡ got m rest
  pub lent : Lent room m

pub head-parts : (room : ℕ) (s : List ℕ) (m : ℕ) (rest : List ℕ) → read_head room s ≡ got m rest → HeadParts room s m rest
unfolding read_head read_width
head-parts room s m rest e =
    let (f, q, e1, e2) = parts (read_number s) (λ form r. choose (eqb form 1) (read_width room r) (refused card_form)) e in
    let t = passed (eqb f 1) _ card_form e2 in
    let (k, r, e3, e4) = parts (read_number q) (λ m rest. Cards.passed (lent_verdict room m) m rest) t.1 in
    let u = verdict_passed (lent_verdict room k) e4 in
    let em : k ≡ m = cc u.1 in
    let er : r ≡ rest = cc u.1 in
    record {
      middle = q;
      form = rw (eqb-true f 1 t.0) at e1;
      width = rw (em, er) at e3;
      lent = rw em at (lent-fine room k u.0);
    }

-- a card that was read
pub record CardRead (room : ℕ) (s : List ℕ) (t : Table) : Type 0 where
  pub lent : Lent room t.width
  pub is_card : s ≡ card t.width t.bytes
  pub is_table : IsTable t.width t.bytes

ended-got : (m : ℕ) (x : Read (List ℕ)) {t : Table} {rest : List ℕ} → ended m x ≡ got t rest → (x ≡ got t.bytes []) × (m ≡ t.width)
ended-got m (refused f) e = no_value e
ended-got m (got y []) e = ((cc), (cc))
ended-got m (got y (b ∷ s)) e = no_value e

pub card-written : (room : ℕ) (s : List ℕ) (t : Table) (rest : List ℕ) → Bytes s → read_card room s ≡ got t rest → CardRead room s t
unfolding read_card card
card-written room s t rest small e =
    let (k, r, e1, e2) = parts (read_head room s) (λ m rest. ended m (read_rows m m rest)) e in
    let (e3, ek) = ended-got k (read_rows k k r) e2 in
    let m = t.width in
    let h = head-parts room s m r (rw ek at e1) in
    let rows = rw ek at e3 in
    let n1 = written_read_lem s 1 h.middle small h.form in
    let n2 = written_read_lem h.middle m r n1.bytes h.width in
    let shape = rows-table m m r t.bytes [] rows in
    let are = rows_written m t.bytes 0 m r [] n2.bytes (rows ∙ ap (λ x. got x []) (sym (range_all m t.bytes shape.size))) in
    record {
      lent = h.lent;
      is_card = n1.is_number ∙ rw (n2.is_number, are.are_rows, append-nil);
      is_table = record { size = shape.size; rows = shape.rows };
    }
