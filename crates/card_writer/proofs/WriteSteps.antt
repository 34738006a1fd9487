-- The steps of the code that writes a card.
-- Puts: bytes that are put, one part after the other, and what is left to be put.
-- Places and rows: the loops over the places of a row and over the rows.
-- Calls: the answers of `write`, and the output afterwards.
use Rattle.std.specs.Prelude.{Result, Ok, Err}
use mathlib.Core.Path.{◌≡◌, refl, sym, ap, ap₂, ◌∙◌}
use mathlib.Core.List.{List, [], ◌∷◌, ◌++◌, append_assoc, append-nil}
use Prim.Native.Nat.{ℕ, zero, suc, ◌+◌, ◌-◌, ◌*◌, ◌/◌, ◌%◌, ◌<◌, ◌≤◌}
use native.Mathlib.Nat.{add-zero, sub-zero, zero-add, mod-eq_of_lt}
use native.Mathlib.Decide.{ℕ_discrete, dec_lt}
use native.Mathlib.Omega.{arith}
use lib.ListN.{length, length-append}
use lib.Seq.{sets}
use borrow.Author.Tests.{lt-ltb}
use Rattle.gf2.specs.Sums.{sum}
use Rattle.gf2.specs.Coordinates.{coord}
use Rattle.gf2.specs.Operands.{max_width}
use Rattle.gf2.specs.Tables.{row}
use Rattle.gf2.proofs.Sums.{sum-ext, sum-split, sum-bits}
use Rattle.gf2.proofs.Coordinates.{coord-lt}
use Rattle.limbs.specs.Limbs.{carried_limbs, limb_coord, limbs_of}
use Rattle.ones.specs.RowLimbs.{next_one}
use Rattle.limbs.proofs.LimbCoords.{limb-lt, limb-past, limb-pack, length-limbs}
use Rattle.ones.proofs.RowLimbs.{next_known}
use Rattle.judging.specs.declared.fault.Fault.{Fault}
use Rattle.judging.specs.declared.fault.Fault.TheVariants.{Call}
use Rattle.judging.specs.declared.fault.CallFault.TheVariants.{OutputShort}
use Rattle.judging.specs.Causes.{Cause}
use Rattle.judging.specs.FaultTable.{too_short, shape_causes}
use Rattle.judging.proofs.CauseLaws.{head-holds, none-given, ends, follows, answer-given, answer-refused}
use Rattle.judging.proofs.Passed.{room-passes}
use Rattle.table.specs.Judgements.{shape_verdict}
use Rattle.table.specs.Rows.{Shaped}
use Rattle.card.specs.Numbers.{number}
use Rattle.card.specs.Rows.{places, steps, ones_of, row_card, rows_card}
use Rattle.card.specs.Cards.{card}
use Rattle.card_writer.specs.Calls.{write_verdict, write_call, write_card}
use Rattle.card_writer.specs.Inner.{Puts, HasRoom, limb_ones}
use Rattle.card_writer.specs.declared.writing.CardWriter.{CardWriter}
use Rattle.card.proofs.Places.{places-zero, places-one, places-ascend, place-high, place_is, places-are}
use Rattle.card_writer.proofs.Lengths.{one_byte, two_bytes, card-most}
use Rattle.card.proofs.Stores.{sets-append, sets-front}

-- two parts
pub put_both : {x y : List ℕ} {old half new : CardWriter} → Puts x old half → Puts y half new → Puts (x ++ y) old new
put_both {x} {y} {old} p q = record {
  ends = omega (arith, p.ends, q.ends, length-append x y);
  stored = q.stored ∙ rw (p.ends, p.stored) (sym (sets-append old.out.now old.at x y));
  same_output = q.same_output ∙ p.same_output;
}

-- a part that has room, and what follows it
pub in-first : {old : CardWriter} (x y : List ℕ) → HasRoom (x ++ y) old → HasRoom x old
in-first x y h = record { within = omega (arith, h.within, length-append x y) }

pub in-second : {x y : List ℕ} {old new : CardWriter} → Puts x old new → HasRoom (x ++ y) old → HasRoom y new
in-second {x = x} {y} p h = record { within = omega (arith, h.within, length-append x y, p.ends) }

-- what has room where the writer stands has room at every place before
pub in-front : {y : List ℕ} {old new : CardWriter} → new.at ≤ old.at → HasRoom y old → HasRoom y new
in-front l h = record { within = omega (arith, h.within, l) }

-- a number of one byte, and one of two
module _ (n : ℕ) {old : CardWriter} where
  module _ (h : n < 128) where
    pub short-room : HasRoom (number n) old → HasRoom (n ∷ []) old
    short-room r = rw (one_byte n h) at r

    pub put-short : {new : CardWriter} → Puts (n ∷ []) old new → Puts (number n) old new
    put-short p = rw (one_byte n h) p

  module _ (h : 128 ≤ n) where
    long-room : HasRoom (number n) old → HasRoom (((128 + n % 128) ∷ []) ++ ((n / 128) ∷ [])) old
    long-room r = rw (two_bytes n h) at r

    pub low-room : HasRoom (number n) old → HasRoom ((128 + n % 128) ∷ []) old
    low-room r = in-first ((128 + n % 128) ∷ []) ((n / 128) ∷ []) (long-room r)

    pub high-room : {new : CardWriter} → HasRoom (number n) old → Puts ((128 + n % 128) ∷ []) old new → HasRoom ((n / 128) ∷ []) new
    high-room r p = in-second p (long-room r)

    pub put-long : {half new : CardWriter} → Puts ((128 + n % 128) ∷ []) old half → Puts ((n / 128) ∷ []) half new → Puts (number n) old new
    put-long p q = rw (two_bytes n h) (put_both p q)

-- what is left to be put, where a whole is put
pub record Left (whole : List ℕ) (old : CardWriter) (rest : List ℕ) (new : CardWriter) : Type 0 where
  pub front : List ℕ
  pub split : whole ≡ front ++ rest
  pub put : Puts front old new

pub left-all : (whole : List ℕ) (old : CardWriter) → Left whole old whole old
left-all whole old = record { front = []; split = refl; put = record { ends = sym (add-zero old.at); stored = refl; same_output = refl } }

module _ {whole rest : List ℕ} {old new : CardWriter} (to : Left whole old rest new) where
  pub left-room : HasRoom whole old → HasRoom rest new
  left-room h = in-second to.put (rw to.split at h)

  pub left-more : {x y : List ℕ} {then : CardWriter} → rest ≡ x ++ y → Puts x new then → Left whole old y then
  left-more {x} {y} e p = record { front = to.front ++ x; split = to.split ∙ rw (e, append_assoc) refl; put = put_both to.put p }

  pub left-done : rest ≡ [] → Puts whole old new
  left-done e = rw (to.split, e, append-nil) to.put

-- the places from i on
module _ (m : ℕ) (f : ℕ → ℕ) (i : ℕ) where
  place-left : i < m → m - i ≡ suc (m - (i + 1))
  place-left h = omega arith

  left-zero : i < m → f i ≡ 0 → places f i (m - i) ≡ places f (i + 1) (m - (i + 1))
  left-zero h z = rw (place-left h) (places-zero f i (m - (i + 1)) z)

  left_one : i < m → (f i ≡ 0 → ⊥) → places f i (m - i) ≡ i ∷ places f (i + 1) (m - (i + 1))
  left_one h n = rw (place-left h) (places-one f i (m - (i + 1)) n)

  left-none : m ≤ i → places f i (m - i) ≡ []
  unfolding places
  left-none h = let z : m - i ≡ 0 = omega arith in rw z

-- n places from i on where f is 0 are passed over
places-skip : (m : ℕ) (f : ℕ → ℕ) (i n : ℕ) → ((j : ℕ) → j < n → f (i + j) ≡ 0) → places f (i + n) (m - (i + n)) ≡ places f i (m - i)
places-skip m f i zero z = ap (λ k. places f k (m - k)) (add-zero i)
places-skip m f i (suc n) z = ap (λ k. places f k (m - k)) (omega arith) ∙ last ∙ places-skip m f i n (λ j l. z j (omega arith))
  where
    last : places f (i + n + 1) (m - (i + n + 1)) ≡ places f (i + n) (m - (i + n))
    last = elim (dec_lt (i + n) m) [
      | yes h ↦ sym (left-zero m f (i + n) h (z n (omega arith)))
      | no h ↦ left-none m f (i + n + 1) (omega arith) ∙ sym (left-none m f (i + n) (omega arith))
    ]

-- the places of a row in limbs, from `free` on
abbrev pub ones_from : List ℕ → ℕ → List ℕ
ones_from x free = places (limb_coord x) free (64 * carried_limbs - free)

-- the next of them, where there is one
pub record Next (x : List ℕ) (free r : ℕ) : Type 0 where
  pub above : free ≤ r
  pub within : r < 64 * carried_limbs
  pub first : ones_from x free ≡ r ∷ ones_from x (r + 1)

pub next_place : (x : List ℕ) (free : ℕ) {r : ℕ} → r ≡ next_one x free → 0 < length (ones_from x free) → Next x free r
next_place x free {r} e some =
    let known = next_known x free e in
    let above = known.above in
    let p : free + (r - free) ≡ r = omega arith in
    let same : ones_from x r ≡ ones_from x free =
    ap (ones_from x) (sym p) ∙ places-skip (64 * carried_limbs) (limb_coord x) free (r - free) (λ j l. known.zeros (free + j) (omega arith) (omega arith)) in
    elim (dec_lt r (64 * carried_limbs)) [
      | yes h ↦ record { above = above; within = h; first = sym same ∙ left_one (64 * carried_limbs) (limb_coord x) r h (known.is_one h) }
      | no h ↦ absurd (omega (arith, ap length (sym same ∙ left-none (64 * carried_limbs) (limb_coord x) r (omega arith))))
    ]

-- the loop that puts the places: `left` of them are to be put, all from `free` on
pub record StepsTo (x : List ℕ) (old new : CardWriter) (free left : ℕ) : Type 0 where
  pub counted : left ≡ length (ones_from x free)
  pub remains : Left (steps 0 (limb_ones x)) old (steps free (ones_from x free)) new

module _ {x : List ℕ} {old new : CardWriter} {free left : ℕ} (to : StepsTo x old new free left) where
  module _ {more : ℕ} (h : left ≡ suc more) {r : ℕ} (e : r ≡ next_one x free) where
    pub steps_next : Next x free r
    steps_next = next_place x free e (omega (arith, to.counted))

    steps-split : steps free (ones_from x free) ≡ number (r - free) ++ steps (r + 1) (ones_from x (r + 1))
    unfolding steps
    steps-split = rw steps_next.first

    pub steps-room : HasRoom (steps 0 (limb_ones x)) old → HasRoom (number (r - free)) new
    steps-room room = in-first _ (steps (r + 1) (ones_from x (r + 1))) (rw steps-split at (left-room to.remains room))

    pub steps-more : {then : CardWriter} → Puts (number (r - free)) new then → StepsTo x old then (r + 1) more
    steps-more p = record { counted = omega (arith, to.counted, ap length steps_next.first); remains = left-more to.remains steps-split p }

  steps_all : left ≡ 0 → ones_from x free ≡ []
  steps_all h = go (ones_from x free) (omega (arith, to.counted))
    where
      go : (l : List ℕ) → length l ≤ 0 → l ≡ []
      go [] h = refl
      go (p ∷ l) h = absurd (omega arith)

  pub steps-done : left ≡ 0 → Puts (steps 0 (limb_ones x)) old new
  unfolding steps
  steps-done h = left-done to.remains (ap (steps free) (steps_all h))

-- a function of bits has as many places as its sum
places_count : (f : ℕ → ℕ) (start count : ℕ) → ((i : ℕ) → f i < 2) → sum count (λ i. f (start + i)) ≡ length (places f start count)
unfolding sum
places_count f start zero small = unfold places in refl
places_count f start (suc count) small =
    let s : suc count ≡ 1 + count = omega arith in
    let rest = places_count f (start + 1) count small in
    let first : sum 1 (λ i. f (start + i)) ≡ f start = zero-add _ ∙ ap f (add-zero start) in
    let next : sum count (λ i. f (start + (1 + i))) ≡ sum count (λ i. f (start + 1 + i)) = sum-ext count _ _ (λ i l. ap f (omega arith)) in
    let all : sum (suc count) (λ i. f (start + i)) ≡ f start + length (places f (start + 1) count) =
    ap (λ c. sum c (λ i. f (start + i))) s ∙ sum-split 1 count (λ i. f (start + i)) ∙ ap₂ ◌+◌ first (next ∙ rest) in
    elim (ℕ_discrete (f start) 0) [
      | yes e ↦ omega (arith, all, ap length (places-zero f start count e))
      | no n ↦ omega (arith, all, small start, ap length (places-one f start count n))
    ]

pub steps-start : (x : List ℕ) (old : CardWriter) {count : ℕ} → count ≡ length (limb_ones x) → StepsTo x old old 0 count
steps-start x old e = record { counted = e; remains = left-all (steps 0 (limb_ones x)) old }

pub count_ones : (x : List ℕ) {n : ℕ} → n ≡ sum (64 * carried_limbs) (limb_coord x) → n ≡ length (limb_ones x)
count_ones x e = e ∙ sum-ext (64 * carried_limbs) _ _ (λ i l. ap (limb_coord x) (sym (zero-add i))) ∙ places_count (limb_coord x) 0 (64 * carried_limbs) (limb-lt x)

pub count-few : (x : List ℕ) {n : ℕ} → n ≡ sum (64 * carried_limbs) (limb_coord x) → n ≤ 64 * carried_limbs
count-few x e = omega (arith, e, sum-bits (64 * carried_limbs) (limb_coord x) (limb-lt x))

-- row d of a table, in limbs
module _ {m : ℕ} {t : List ℕ} (ok : Shaped m t) (d : ℕ) (l : d < m) {x : List ℕ} (e : x ≡ limbs_of (row m t d)) where
  row-coord : (i : ℕ) → i < 64 * carried_limbs → limb_coord x i ≡ coord (row m t d) i
  row-coord i h = ap (λ y. limb_coord y i) e ∙ limb-pack carried_limbs (coord (row m t d)) i h ∙ mod-eq_of_lt (coord-lt (row m t d) i)

  row-clear : (i : ℕ) → m ≤ i → limb_coord x i ≡ 0
  row-clear i h = elim (dec_lt i (64 * carried_limbs)) [
    | yes q ↦ row-coord i q ∙ (ok.is_table.rows d l).clear i h
    | no q ↦ limb-past x i (omega (arith, ap length e, length-limbs carried_limbs (coord (row m t d))))
  ]

  row-ones : limb_ones x ≡ ones_of m (row m t d)
  row-ones =
      let g = ok.greatest in
      places-are (limb_coord x) 0 (64 * carried_limbs) (64 * carried_limbs) (omega arith) (places-ascend (coord (row m t d)) 0 m (64 * carried_limbs) (omega arith)) (λ i low high.
      elim (dec_lt i m) [
        | yes q ↦ row-coord i high ∙ sym (place_is (coord (row m t d)) 0 m i low (omega arith) (coord-lt (row m t d) i))
        | no q ↦ row-clear i (omega arith) ∙ sym (place-high (places-ascend (coord (row m t d)) 0 m m (omega arith)) i (omega arith))
      ])

  -- its number of ones, and the steps to their places
  pub row-parts : {n : ℕ} → n ≡ sum (64 * carried_limbs) (limb_coord x) → row_card m (row m t d) ≡ number n ++ steps 0 (limb_ones x)
  unfolding row_card
  row-parts q = rw (count_ones x q, row-ones)

-- the loop over the rows: those below d are put
pub record RowsPut (m : ℕ) (table : List ℕ) (old new : CardWriter) (d : ℕ) : Type 0 where
  pub remains : Left (rows_card m table 0 m) old (rows_card m table d (m - d)) new

module _ {m : ℕ} {table : List ℕ} {old new : CardWriter} {d : ℕ} (to : RowsPut m table old new d) where
  rows_split : d < m → rows_card m table d (m - d) ≡ row_card m (row m table d) ++ rows_card m table (d + 1) (m - (d + 1))
  unfolding rows_card
  rows_split h = let e : m - d ≡ suc (m - (d + 1)) = omega arith in rw e

  pub rows-room : HasRoom (rows_card m table 0 m) old → d < m → HasRoom (row_card m (row m table d)) new
  rows-room f h = in-first _ (rows_card m table (d + 1) (m - (d + 1))) (rw (rows_split h) at (left-room to.remains f))

  pub rows_more : {then : CardWriter} → d < m → Puts (row_card m (row m table d)) new then → RowsPut m table old then (d + 1)
  rows_more h p = record { remains = left-more to.remains (rows_split h) p }

  pub rows-done : m ≤ d → Puts (rows_card m table 0 m) old new
  unfolding rows_card
  rows-done h = let z : m - d ≡ 0 = omega arith in left-done to.remains (rw z)

pub rows_start : (m : ℕ) (table : List ℕ) (old : CardWriter) → RowsPut m table old old 0
rows_start m table old = record { remains = rw sub-zero (left-all (rows_card m table 0 m) old) }

-- the card: the form, the width and the rows, where the writer stands at the front
module _ (m : ℕ) (table : List ℕ) {old : CardWriter} where
  pub card-room : m ≤ max_width → old.at ≡ 0 → HasRoom (number 1 ++ (number m ++ rows_card m table 0 m)) old
  unfolding card
  card-room h e = record { within = omega (arith, e, card-most m table h) }

  pub card-put : {form rows new : CardWriter} → Puts (number 1) old form → Puts (number m) form rows → Puts (rows_card m table 0 m) rows new → Puts (card m table) old new
  unfolding card
  card-put p q r = put_both p (put_both q r)

-- the answer of `write`, and the output afterwards
pub record Wrote (m : ℕ) (table old : List ℕ) (r : Result ℕ Fault) (new : List ℕ) : Type 0 where
  pub answers : r ≡ write_call m table old
  pub leaves : new ≡ write_card m table old

module _ (m : ℕ) (table old : List ℕ) where
  abbrev short : Cause
  short = too_short (length old) (length (card m table))

  wrote-fault : {f : Fault} → Err f ≡ write_verdict m table (length old) → Wrote m table old (Err f) old
  wrote-fault e = record { answers = answer-refused (length (card m table)) (sym e); leaves = rw (← e) }

  pub wrote-shape : {f : Fault} → shape_verdict m table ≡ Err f → Wrote m table old (Err f) old
  wrote-shape q = wrote-fault (ends (shape_causes m table) (short ∷ []) refl q)

  module _ (q : shape_verdict m table ≡ Ok tt) where
    pub wrote-short : length old < length (card m table) → Wrote m table old (Err (Call OutputShort)) old
    wrote-short h =
        wrote-fault (follows (shape_causes m table) (short ∷ []) refl q (sym (head-holds short [] (lt-ltb (length old) (length (card m table)) h))))

    pub wrote-card : {new : List ℕ} → length (card m table) ≤ length old → new ≡ sets old 0 (card m table) → Wrote m table old (Ok (length (card m table))) new
    wrote-card h s =
        let z = follows (shape_causes m table) (short ∷ []) refl q (sym (none-given (short ∷ []) (room-passes (length old) (length (card m table)) h, tt))) in
        record { answers = answer-given (length (card m table)) (sym z); leaves = s ∙ rw (← z) (sets-front old (card m table) h) }
