-- The steps of the code that reads a card.
-- Places: the loop over the places of a row, and the row's count.
-- Rows: the loop over the rows, and what it stores.
-- Head and card: form, width, and the card as a whole.
use Rattle.std.specs.Prelude.{Result, Ok, Err, IsErrAnd}
use mathlib.Core.Path.{◌≡◌, refl, sym, ap, ◌∙◌}
use mathlib.Core.List.{List, [], ◌∷◌, ◌++◌, append_assoc, append-nil}
use mathlib.Core.Bool.{Bool, true, false}
use Prim.Native.Nat.{ℕ, zero, suc, ◌+◌, ◌-◌, ◌*◌, ◌/◌, ◌%◌, ◌^◌, ◌<◌, ◌≤◌}
use native.Mathlib.Nat.{zero-add, sub-zero, zero-mul, suc-mul}
use native.Mathlib.Numerals.{add-one}
use native.Mathlib.Decide.{ℕ_discrete, dec_lt}
use native.Mathlib.Omega.{arith}
use lib.ListN.{length, get_or, take, set, replicate, length-append, length-set}
use lib.Seq.{sets, take_all, take-append-le, get_or-set_same, get_or-set_other}
use lib.Bits.{bit_xor, xor_lt}
use lib.Pow.{pow_mono}
use lib.Dec.{eqb, ltb}
use borrow.Author.Tests.{lt-ltb, le-ltb, le-leb, lt-leb, eq-eqb, ne_eqb, eqb-true}
use Rattle.gf2.specs.Sums.{sum, every}
use Rattle.gf2.specs.Coordinates.{coord, value, tabulate, pack}
use Rattle.gf2.specs.Operands.{max_width, bytes_for, carried_bytes, choose, below, from_coords}
use Rattle.gf2.proofs.Parity.{bool-ext}
use Rattle.gf2.proofs.Sums.{every-at}
use Rattle.gf2.proofs.Coordinates.{length-tabulate, length-pack, pack-byte, coord-pack, pack-eq, pack-ext, xor-bit}
use Rattle.gf2.proofs.Operands.{below_in, below_out, length_from}
use Rattle.judging.specs.declared.fault.Fault.{Fault}
use Rattle.judging.specs.Faults.{card_form, card_place, card_tail}
use Rattle.judging.proofs.CauseLaws.{handed_on}
use Rattle.card.specs.Numbers.{Read, refused, got, read_number}
use Rattle.card.specs.Rows.{after, read_places, read_row, is_place, row_of, read_rows}
use Rattle.card.specs.Cards.{lent_verdict, read_width, read_head, ended, read_card}
use Rattle.card.specs.Calls.{read_call, read_table, read_answer, read_into}
use Rattle.card.specs.Inner.{told, told_row, carried_places, end_of, RowsRead}
use Rattle.card.proofs.Numbers.{no_value}
use Rattle.card.proofs.Places.{place_here, place-there}
use Rattle.card.proofs.Stores.{sets-append, sets-front}
use Rattle.card.proofs.Trips.{head-parts, rows-table}

-- the exit of a `?`
pub told-refused : {A : Type 0} (rest : List ℕ) {x : Read A} {f : Fault} (r : Result A Fault) → IsErrAnd r (λ g. g ≡ f) → refused f ≡ x → told r rest ≡ x
told-refused rest r e h = ap (λ v. told v rest) (handed_on r e refl) ∙ h

pub told-no_row : (row rest : List ℕ) {x : Read (List ℕ)} {f : Fault} (r : Result (Unit {0}) Fault) → IsErrAnd r (λ g. g ≡ f) → refused f ≡ x → told_row r row rest ≡ x
told-no_row row rest r e h = ap (λ v. told_row v row rest) (handed_on r e refl) ∙ h

-- a value that is read, by an equal one
pub got-as : {A : Type 0} {x : Read A} {a b : A} {rest : List ℕ} → b ≡ a → got a rest ≡ x → x ≡ got b rest
got-as e h = rw e (sym h)

after-nil : (x : Read (List ℕ)) → x ≡ after [] x
after-nil (refused f) = refl
after-nil (got y s) = refl

after-after : (a b : List ℕ) (x : Read (List ℕ)) → after a (after b x) ≡ after (a ++ b) x
after-after a b (refused f) = refl
after-after a b (got y s) = rw append_assoc

-- a power of two has one bit
power-bit : (s j : ℕ) → s < 8 → j < 8 → 2 ^ s / 2 ^ j % 2 ≡ choose (eqb j s) 1 0
power-bit s j h l = eqb-true _ _ (every-at 8 (row s) (every-at 8 (λ s. every 8 (row s)) (unfold every in refl) s h) j l)
  where
    row : ℕ → ℕ → Bool
    row s j = eqb (2 ^ s / 2 ^ j % 2) (choose (eqb j s) 1 0)

power-byte : (s : ℕ) → s < 8 → 2 ^ s < 256
power-byte s h = omega (arith, pow_mono {i = s} {j = 7} (omega arith))

-- the bit of place p in its byte
pub bit-value : (p : ℕ) → 1 * 2 ^ (p % 8) % 256 ≡ 2 ^ (p % 8)
bit-value p = omega (arith, power-byte (p % 8) (omega arith))

-- bytes with the bit at p turned over
module _ (n : ℕ) (f : ℕ → ℕ) (p : ℕ) (h : p < 8 * n) where
  abbrev bytes : List ℕ
  bytes = pack n f

  abbrev over : ℕ
  over = bit_xor (get_or bytes (p / 8) 0) (2 ^ (p % 8))

  at_byte : get_or (set bytes (p / 8) over) (p / 8) 0 ≡ over
  at_byte = get_or-set_same bytes (p / 8) over 0 (omega (arith, length-pack n f))

  over-byte : (b : ℕ) → get_or (set bytes (p / 8) over) b 0 < 256
  over-byte b = elim (ℕ_discrete b (p / 8)) [
    | yes e ↦ rw (e, at_byte) (xor_lt 8 _ _ (pack-byte n f (p / 8)) (power-byte (p % 8) (omega arith)))
    | no e ↦ rw (get_or-set_other bytes (p / 8) b over 0 e) (pack-byte n f b)
  ]

  over-coord : (i : ℕ) → i < 8 * n → coord (set bytes (p / 8) over) i ≡ (f i + choose (eqb i p) 1 0) % 2
  unfolding coord
  over-coord i l = elim (ℕ_discrete (i / 8) (p / 8)) [
    | yes e ↦
        let b : get_or bytes (p / 8) 0 / 2 ^ (i % 8) % 2 ≡ f i % 2 = rw e at (coord-pack n f i l) in
        let o = power-bit (p % 8) (i % 8) (omega arith) (omega arith) ∙ ap (λ z. choose z 1 0) (same_bit e) in
        rw (e, at_byte) (xor-bit (get_or bytes (p / 8) 0) (2 ^ (p % 8)) (i % 8) ∙ omega arith)
    | no e ↦
        let b : get_or bytes (i / 8) 0 / 2 ^ (i % 8) % 2 ≡ f i % 2 = coord-pack n f i l in
        rw (get_or-set_other bytes (p / 8) (i / 8) over 0 e, ne_eqb i p (λ q. e (ap (λ k. k / 8) q))) (omega arith)
  ]
    where
      same_bit : i / 8 ≡ p / 8 → eqb (i % 8) (p % 8) ≡ eqb i p
      same_bit e = bool-ext _ _ (λ q. let r = eqb-true (i % 8) (p % 8) q in eq-eqb i p (omega arith)) (λ q. let r = eqb-true i p q in eq-eqb (i % 8) (p % 8) (omega arith))

  over-pack : set bytes (p / 8) over ≡ pack n (λ i. f i + choose (eqb i p) 1 0)
  over-pack = pack-eq n (λ i. f i + choose (eqb i p) 1 0) (set bytes (p / 8) over) (simp length-set (length-pack n f)) over-byte over-coord

-- one more place, which isn't in the list yet
place-last : (ps : List ℕ) (p i : ℕ) → is_place ps p ≡ 0 → is_place (ps ++ (p ∷ [])) i ≡ is_place ps i + choose (eqb i p) 1 0
place-last [] p i e = unfold is_place in rw zero-add
place-last (q ∷ ps) p i e =
    let new : p ≡ q → ⊥ = λ z. (let o = sym (place_here q ps p z) ∙ e in omega arith) in
    elim (ℕ_discrete i q) [
      | yes r ↦ place_here q (ps ++ (p ∷ [])) i r ∙ rw (place_here q ps i r, ne_eqb i p (λ z. new (sym z ∙ r)))
      | no r ↦ place-there q (ps ++ (p ∷ [])) i r ∙ place-last ps p i (sym (place-there q ps p new) ∙ e) ∙ ap (λ k. k + choose (eqb i p) 1 0) (sym (place-there q ps i r))
    ]

-- the loop over the places of a row: those in `front` are read, and stored in `bytes`
pub record PlacesTo (m : ℕ) (x : Read (List ℕ)) (s bytes : List ℕ) (free left : ℕ) : Type 0 where
  pub front : List ℕ
  pub within : free ≤ m
  pub reads : x ≡ after front (read_places m free left s)
  pub above : (i : ℕ) → free ≤ i → is_place front i ≡ 0
  pub stored : bytes ≡ from_coords carried_bytes m (is_place front)

no-places : (m : ℕ) → replicate carried_bytes 0 ≡ from_coords carried_bytes m (is_place [])
unfolding from_coords pack tabulate value sum below is_place
no-places m = start ∙ pack-ext carried_bytes (λ i. 0) (below m (is_place [])) (λ i l. zeros (ltb i m))
  where
    start : replicate carried_bytes 0 ≡ pack carried_bytes (λ i. 0)
    start = refl

    zeros : (b : Bool) → 0 % 2 ≡ choose b 0 0 % 2
    zeros true = refl
    zeros false = refl

-- one more place, stored
stored-place : (m : ℕ) (ps : List ℕ) (p : ℕ) → p < m → m ≤ max_width → is_place ps p ≡ 0 →
    set (from_coords carried_bytes m (is_place ps)) (p / 8) (bit_xor (get_or (from_coords carried_bytes m (is_place ps)) (p / 8) 0) (2 ^ (p % 8)))
    ≡ from_coords carried_bytes m (is_place (ps ++ (p ∷ [])))
unfolding from_coords
stored-place m ps p h u new = over-pack carried_bytes (below m (is_place ps)) p (omega arith) ∙ pack-ext carried_bytes _ _ (λ i l. ap (λ z. z % 2) (each i))
  where
    each : (i : ℕ) → below m (is_place ps) i + choose (eqb i p) 1 0 ≡ below m (is_place (ps ++ (p ∷ []))) i
    each i = elim (dec_lt i m) [
      | yes l ↦ rw (below_in m (is_place ps) i l, below_in m (is_place (ps ++ (p ∷ []))) i l) (sym (place-last ps p i new))
      | no l ↦ rw (below_out m (is_place ps) i (omega arith), below_out m (is_place (ps ++ (p ∷ []))) i (omega arith), ne_eqb i p (λ z. omega arith))
    ]

pub places-none : (m count : ℕ) (s : List ℕ) → PlacesTo m (read_places m 0 count s) s (replicate carried_bytes 0) 0 count
places-none m count s = record {
  front = [];
  within = omega arith;
  reads = after-nil (read_places m 0 count s);
  above = λ i h. unfold is_place in refl;
  stored = no-places m;
}

module _ {m free left : ℕ} {x : Read (List ℕ)} {s bytes : List ℕ} (to : PlacesTo m x s bytes free left) where
  pub places-refused : {f : Fault} {more : ℕ} → left ≡ suc more → read_number s ≡ refused f → refused f ≡ carried_places m x
  unfolding read_places
  places-refused h e = rw (rw h at to.reads, e)

  pub places-far : {k more : ℕ} {r : List ℕ} → left ≡ suc more → read_number s ≡ got k r → m - free ≤ k → refused card_place ≡ carried_places m x
  unfolding read_places
  places-far {k} h e far = let w = to.within in rw (rw h at to.reads, e, le-ltb (free + k) m (omega arith))

  pub places-more : {k more : ℕ} {r : List ℕ} → m ≤ max_width → left ≡ suc more → read_number s ≡ got k r → k < m - free →
      PlacesTo m x r (set bytes ((free + k) / 8) (bit_xor (get_or bytes ((free + k) / 8) 0) (2 ^ ((free + k) % 8)))) (free + k + 1) more
  unfolding read_places
  places-more {k} {more} {r} small h e near =
      let p = free + k in
      let u : p < m = omega arith in
      let new = to.above p (omega arith) in record {
        front = to.front ++ (p ∷ []);
        within = omega arith;
        reads = rw h at to.reads ∙ rw (e, lt-ltb p m u) (after-after to.front (p ∷ []) (read_places m (p + 1) more r));
        above = λ i l. place-last to.front p i new ∙ rw (to.above i (omega arith), ne_eqb i p (λ z. omega arith));
        stored = rw to.stored (stored-place m to.front p u small new);
      }

  pub places-done : left ≡ 0 → got bytes s ≡ carried_places m x
  unfolding read_places
  places-done z = rw (rw z at to.reads, to.stored, append-nil)

-- a row's count
module _ (m : ℕ) (s : List ℕ) where
  pub row-refused : {f : Fault} → read_number s ≡ refused f → refused f ≡ carried_places m (read_row m s)
  unfolding read_row
  row-refused e = rw e

  pub row-far : {k : ℕ} {r : List ℕ} → read_number s ≡ got k r → m < k → refused card_place ≡ carried_places m (read_row m s)
  unfolding read_row
  row-far {k} e h = rw (e, lt-leb k m h)

  pub row-some : {x : Read (List ℕ)} {k : ℕ} {r : List ℕ} → read_number s ≡ got k r → k ≤ m → x ≡ carried_places m (read_places m 0 k r) → x ≡ carried_places m (read_row m s)
  unfolding read_row
  row-some {k = k} e h q = q ∙ rw (e, le-leb k m h)

pub carried-got : (m : ℕ) (x : Read (List ℕ)) {bytes rest : List ℕ} → carried_places m x ≡ got bytes rest →
    (ps : List ℕ) × (x ≡ got ps rest) × (bytes ≡ from_coords carried_bytes m (is_place ps))
carried-got m (refused f) e = no_value e
carried-got m (got ps s) e = (ps, (cc), (cc))

pub carried-refused : (m : ℕ) (x : Read (List ℕ)) {f : Fault} → carried_places m x ≡ refused f → x ≡ refused f
carried-refused m (refused f) e = cc
carried-refused m (got ps s) e = no_value (sym e)

-- the first W bytes of a carried row are the row
take-tabulate : (n w : ℕ) (f : ℕ → ℕ) → w ≤ n → take w (tabulate n f) ≡ tabulate w f
unfolding tabulate
take-tabulate zero w f h = let e : w ≡ 0 = omega arith in rw e
take-tabulate (suc n) w f h = elim (dec_lt w (suc n)) [
  | yes l ↦ rw (take-append-le w (tabulate n f) (f n ∷ []) (omega (arith, length-tabulate n f))) (take-tabulate n w f (omega arith))
  | no l ↦
      let e : w ≡ suc n = omega arith in
      rw e (take_all (suc n) (tabulate n f ++ (f n ∷ [])) (omega (arith, length-append (tabulate n f) (f n ∷ []), length-tabulate n f)))
]

take_row : (m : ℕ) (f : ℕ → ℕ) → m ≤ max_width → take (bytes_for m) (from_coords carried_bytes m f) ≡ from_coords (bytes_for m) m f
unfolding from_coords pack
take_row m f h = take-tabulate carried_bytes (bytes_for m) _ (omega arith)

-- the loop over the rows: those in `front`, below the row d, are read and stored
pub record RowsTo (m : ℕ) (s₀ s old new : List ℕ) (d : ℕ) : Type 0 where
  pub front : List ℕ
  pub size : length front ≡ d * bytes_for m
  pub reads : read_rows m m s₀ ≡ after front (read_rows m (m - d) s)
  pub stored : new ≡ sets old 0 front
  pub kept : length new ≡ length old

pub rows-none : (m : ℕ) (s old : List ℕ) → RowsTo m s s old old 0
rows-none m s old = record { front = []; size = sym (zero-mul (bytes_for m)); reads = rw sub-zero (after-nil (read_rows m m s)); stored = refl; kept = refl }

module _ {m d : ℕ} {s₀ s old new : List ℕ} (to : RowsTo m s₀ s old new d) where
  -- this row is left, and the others
  rows-left : d < m → m - d ≡ suc (m - (d + 1))
  rows-left h = omega arith

  pub rows-refused : {f : Fault} → d < m → read_row m s ≡ refused f → RowsRead m s₀ (refused f) old new
  unfolding read_rows
  rows-refused {f} h e =
      let q : read_rows m m s₀ ≡ refused f = rw (rows-left h) at to.reads ∙ rw e in
      record { ends = sym (ap end_of q); stores = λ t rest g. no_value (sym q ∙ g) }

  pub rows_more : {ps r bytes next : List ℕ} → m ≤ max_width → d < m → read_row m s ≡ got ps r → bytes ≡ from_coords carried_bytes m (is_place ps) →
      next ≡ sets new (d * bytes_for m) (take (bytes_for m) bytes) → length next ≡ length new → RowsTo m s₀ r old next (d + 1)
  unfolding read_rows
  rows_more {ps} {r} small h e b n k =
      let size = length_from (bytes_for m) m (is_place ps) in
      let step : (d + 1) * bytes_for m ≡ d * bytes_for m + bytes_for m = rw add-one (suc-mul d (bytes_for m)) in
      let joined : sets old 0 (to.front ++ row_of m ps) ≡ sets (sets old 0 to.front) (length to.front) (row_of m ps) = rw zero-add at (sets-append old 0 to.front (row_of m ps)) in record {
        front = to.front ++ row_of m ps;
        size = omega (arith, length-append to.front (row_of m ps), size, to.size, step);
        reads = rw (rows-left h) at to.reads ∙ rw e (after-after to.front (row_of m ps) (read_rows m (m - (d + 1)) r));
        stored = n ∙ rw (b, take_row m (is_place ps) small, to.stored, ← to.size) (sym joined);
        kept = k ∙ to.kept;
      }

  pub rows-done : m ≤ d → RowsRead m s₀ (got tt s) old new
  unfolding read_rows
  rows-done h =
      let z : m - d ≡ 0 = omega arith in
      let q : read_rows m m s₀ ≡ got (to.front ++ []) s = rw z at to.reads in record {
        ends = sym (ap end_of q);
        stores = λ t rest g. (let e : to.front ≡ t = sym (append-nil to.front) ∙ (cc (sym q ∙ g)) in rw (← e) to.stored);
      }

-- form and width
module _ (room : ℕ) (s : List ℕ) where
  pub width-refused : {f : Fault} → read_number s ≡ refused f → refused f ≡ read_width room s
  unfolding read_width
  width-refused e = rw e

  pub width_some : {m : ℕ} {r : List ℕ} → read_number s ≡ got m r → lent_verdict room m ≡ Ok tt → got m r ≡ read_width room s
  unfolding read_width
  width_some e n = rw (e, n)

  pub width-fault : {m : ℕ} {r : List ℕ} {f : Fault} → read_number s ≡ got m r → lent_verdict room m ≡ Err f → refused f ≡ read_width room s
  unfolding read_width
  width-fault e n = rw (e, n)

  pub head-refused : {f : Fault} → read_number s ≡ refused f → refused f ≡ read_head room s
  unfolding read_head
  head-refused e = rw e

  pub head-some : {x : Read ℕ} {form : ℕ} {r : List ℕ} → read_number s ≡ got form r → form ≡ 1 → x ≡ read_width room r → x ≡ read_head room s
  unfolding read_head
  head-some {form = form} e o w = w ∙ rw (e, eq-eqb form 1 o)

  pub head-form : {form : ℕ} {r : List ℕ} → read_number s ≡ got form r → (form ≡ 1 → ⊥) → refused card_form ≡ read_head room s
  unfolding read_head
  head-form {form} e n = rw (e, ne_eqb form 1 n)

-- the card as a whole: the answer, and the lent table afterwards
pub record Answered (s old : List ℕ) (r : Result ℕ Fault) (new : List ℕ) : Type 0 where
  pub answers : r ≡ read_call s old
  pub leaves : new ≡ read_table s old

end-got : (x : Read (List ℕ)) {rest : List ℕ} → end_of x ≡ got tt rest → (t : List ℕ) × (x ≡ got t rest)
end-got (refused f) e = no_value e
end-got (got t s) e = (t, (cc))

end_refused : (x : Read (List ℕ)) {f : Fault} → end_of x ≡ refused f → x ≡ refused f
end_refused (refused f) e = cc
end_refused (got t s) e = no_value (sym e)

ended-more : (m : ℕ) (t rest : List ℕ) → 0 < length rest → ended m (got t rest) ≡ refused card_tail
ended-more m t [] h = absurd (omega arith)
ended-more m t (b ∷ rest) h = refl

ended-all : (m : ℕ) (t rest : List ℕ) → length rest ≤ 0 → ended m (got t rest) ≡ got (record { width = m; bytes = t }) []
ended-all m t [] h = refl
ended-all m t (b ∷ rest) h = absurd (omega arith)

-- the exit of a `?`
pub answered-refused : {s old new : List ℕ} {f : Fault} (r : Result ℕ Fault) → IsErrAnd r (λ g. g ≡ f) → Answered s old (Err f) new → Answered s old r new
answered-refused r e x = record { answers = handed_on r e x.answers; leaves = x.leaves }

module _ (s old : List ℕ) where
  refusal : {f : Fault} → read_card (length old) s ≡ refused f → Answered s old (Err f) old
  refusal e = record { answers = sym (ap read_answer e); leaves = sym (ap (λ x. read_into x old) e) }

  pub card-head : {f : Fault} → read_head (length old) s ≡ refused f → Answered s old (Err f) old
  unfolding read_card
  card-head e = refusal (rw e)

  module _ {m : ℕ} {rows : List ℕ} (head : read_head (length old) s ≡ got m rows) where
    card-is : {x : Read (List ℕ)} → read_rows m m rows ≡ x → read_card (length old) s ≡ ended m x
    unfolding read_card
    card-is q = rw (head, q)

    pub card-rows : {f : Fault} → end_of (read_rows m m rows) ≡ refused f → Answered s old (Err f) old
    card-rows e = refusal (card-is (end_refused (read_rows m m rows) e))

    pub card-tail : {rest : List ℕ} → end_of (read_rows m m rows) ≡ got tt rest → 0 < length rest → Answered s old (Err card_tail) old
    card-tail {rest} e h =
        let (t, q) = end-got (read_rows m m rows) e in
        refusal (card-is q ∙ ended-more m t rest h)

    pub card-done : {rest : List ℕ} {r : Read (Unit {0})} {new : List ℕ} → end_of (read_rows m m rows) ≡ got tt rest → length rest ≤ 0 →
        RowsRead m rows r old new → Answered s old (Ok m) new
    card-done {rest} e h f =
        let (t, q) = end-got (read_rows m m rows) e in
        let c : read_card (length old) s ≡ got (record { width = m; bytes = t }) [] = card-is q ∙ ended-all m t rest h in
        let lent = (head-parts (length old) s m rows head).lent in
        let fits : length t ≤ length old = omega (arith, (rows-table m m rows t rest q).size, lent.fits) in record {
          answers = sym (ap read_answer c);
          leaves = f.stores t rest q ∙ sets-front old t fits ∙ sym (ap (λ x. read_into x old) c);
        }
