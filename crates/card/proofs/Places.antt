-- Laws of the places of a row's ones.
-- Lists: places that ascend; the places of a function, and the function of its places.
-- Rows: the operand with ones at given places.
-- Trips: places, and a row of them, written and read, both ways.
use mathlib.Core.Path.{◌≡◌, refl, sym, ap, ◌∙◌}
use mathlib.Core.List.{List, [], ◌∷◌, ◌++◌, append_assoc}
use Prim.Native.Nat.{ℕ, zero, suc, ◌+◌, ◌-◌, ◌%◌, ◌<◌, ◌≤◌}
use native.Mathlib.Nat.{mod-eq_of_lt}
use native.Mathlib.Decide.{ℕ_discrete}
use native.Mathlib.Omega.{arith}
use lib.ListN.{length}
use lib.Dec.{ltb, leb}
use borrow.Author.Tests.{lt-ltb, ltb-true, le-leb, eq-eqb, ne_eqb}
use Rattle.gf2.specs.Coordinates.{coord}
use Rattle.gf2.specs.Operands.{bytes_for, IsOperand, choose}
use Rattle.gf2.proofs.Coordinates.{coord-lt}
use Rattle.gf2.proofs.Operands.{coord-from, from-eq}
use Rattle.judging.specs.Faults.{card_place}
use Rattle.card.specs.Numbers.{number_limit, Read, refused, got, read_number}
use Rattle.card.specs.Rows.{places, steps, ones_of, row_card, after, read_places, read_row, is_place, row_of}
use Rattle.card.specs.Statements.{Bytes}
use Rattle.card.proofs.Numbers.{no_value, parts, passed, read-written, written_read_lem}

-- places one above the other, the first `free` or above, all below m
pub data Ascending (m : ℕ) : ℕ → List ℕ → Type 0 where
  none : {free : ℕ} → Ascending m free []
  more : {free p : ℕ} {ps : List ℕ} → free ≤ p → p < m → Ascending m (p + 1) ps → Ascending m free (p ∷ ps)

from-lower : {m free low : ℕ} {ps : List ℕ} → low ≤ free → Ascending m free ps → Ascending m low ps
from-lower h none = none
from-lower {low = low} {ps = p ∷ ps} h (more l u a) = let b : low ≤ p = omega arith in more b u a

pub count-le : {m free : ℕ} {ps : List ℕ} → Ascending m free ps → length ps ≤ m - free
count-le none = omega arith
count-le (more l u a) = omega (arith, count-le a)

module _ (f : ℕ → ℕ) (start count : ℕ) where
  pub places-zero : f start ≡ 0 → places f start (suc count) ≡ places f (start + 1) count
  unfolding places
  places-zero e = rw (eq-eqb (f start) 0 e)

  pub places-one : (f start ≡ 0 → ⊥) → places f start (suc count) ≡ start ∷ places f (start + 1) count
  unfolding places
  places-one n = rw (ne_eqb (f start) 0 n)

pub places-ascend : (f : ℕ → ℕ) (start count m : ℕ) → start + count ≤ m → Ascending m start (places f start count)
places-ascend f start zero m h = unfold places in none
places-ascend f start (suc count) m h =
    let a = places-ascend f (start + 1) count m (omega arith) in
    elim (ℕ_discrete (f start) 0) [
      | yes e ↦ rw (places-zero f start count e) (from-lower (omega arith) a)
      | no n ↦ let u : start < m = omega arith in let l : start ≤ start = omega arith in rw (places-one f start count n) (more l u a)
    ]

module _ (p : ℕ) (ps : List ℕ) (i : ℕ) where
  pub place_here : i ≡ p → is_place (p ∷ ps) i ≡ 1
  unfolding is_place
  place_here e = rw (eq-eqb i p e)

  pub place-there : (i ≡ p → ⊥) → is_place (p ∷ ps) i ≡ is_place ps i
  unfolding is_place
  place-there n = rw (ne_eqb i p n)

pub place-lt : (ps : List ℕ) (i : ℕ) → is_place ps i < 2
place-lt [] i = unfold is_place in omega arith
place-lt (p ∷ ps) i = elim (ℕ_discrete i p) [
  | yes e ↦ rw (place_here p ps i e) (omega arith)
  | no n ↦ rw (place-there p ps i n) (place-lt ps i)
]

pub place-low : {m free : ℕ} {ps : List ℕ} → Ascending m free ps → (i : ℕ) → i < free → is_place ps i ≡ 0
place-low none i h = unfold is_place in refl
place-low {ps = p ∷ ps} (more l u a) i h = place-there p ps i (λ e. omega arith) ∙ place-low a i (omega arith)

pub place-high : {m free : ℕ} {ps : List ℕ} → Ascending m free ps → (i : ℕ) → m ≤ i → is_place ps i ≡ 0
place-high none i h = unfold is_place in refl
place-high {ps = p ∷ ps} (more l u a) i h = place-there p ps i (λ e. omega arith) ∙ place-high a i h

-- the function of the places of f is f, where that is 0 or 1
pub place_is : (f : ℕ → ℕ) (start count i : ℕ) → start ≤ i → i < start + count → f i < 2 → is_place (places f start count) i ≡ f i
place_is f start zero i h l u = absurd (omega arith)
place_is f start (suc count) i h l u = elim (ℕ_discrete (f start) 0) [
  | yes e ↦ rw (places-zero f start count e) (elim (ℕ_discrete i start) [
    | yes q ↦ place-low (places-ascend f (start + 1) count (start + 1 + count) (omega arith)) i (omega arith) ∙ sym (ap f q ∙ e)
    | no q ↦ place_is f (start + 1) count i (omega arith) (omega arith) u
  ])
  | no n ↦ rw (places-one f start count n) (elim (ℕ_discrete i start) [
    | yes q ↦ place_here start (places f (start + 1) count) i q ∙ (let z : f i ≡ 0 → ⊥ = λ z. n (ap f (sym q) ∙ z) in omega arith)
    | no q ↦ place-there start (places f (start + 1) count) i q ∙ place_is f (start + 1) count i (omega arith) (omega arith) u
  ])
]

-- the places of a function that is 1 at the places of a list, and 0 elsewhere
pub places-are : (f : ℕ → ℕ) (start count m : ℕ) {ps : List ℕ} → start + count ≡ m → Ascending m start ps →
    ((i : ℕ) → start ≤ i → i < m → f i ≡ is_place ps i) → places f start count ≡ ps
places-are f start zero m h none e = unfold places in refl
places-are f start zero m h (more l u a) e = absurd (omega arith)
places-are f start (suc count) m h none e =
    places-zero f start count (e start (omega arith) (omega arith) ∙ unfold is_place in refl)
    ∙ places-are f (start + 1) count m (omega arith) none (λ i l u. e i (omega arith) u)
places-are f start (suc count) m {ps = p ∷ ps} h (more l u a) e = elim (ℕ_discrete start p) [
  | yes q ↦
      places-one f start count (λ z. let o = e start (omega arith) (omega arith) ∙ place_here p ps start q in omega arith)
      ∙ rw q (ap (λ r. p ∷ r) (places-are f (p + 1) count m (omega arith) a (λ i b v. e i (omega arith) v ∙ place-there p ps i (λ z. omega arith))))
  | no q ↦
      places-zero f start count (e start (omega arith) (omega arith) ∙ place-low (more {free = start + 1} (omega arith) u a) start (omega arith))
      ∙ places-are f (start + 1) count m (omega arith) (more (omega arith) u a) (λ i b v. e i (omega arith) v)
]

-- an operand is the row of the places of its ones, and these are the places that it was made from
pub row-of-ones : {m : ℕ} {x : List ℕ} → IsOperand (bytes_for m) m x → row_of m (ones_of m x) ≡ x
row-of-ones {m} {x} o = sym (from-eq (bytes_for m) m (is_place (ones_of m x)) o (λ i l.
    sym (ap (λ z. z % 2) (place_is (coord x) 0 m i (omega arith) (omega arith) (coord-lt x i)) ∙ mod-eq_of_lt (coord-lt x i))))

pub ones-of-row : {m : ℕ} {ps : List ℕ} → Ascending m 0 ps → ones_of m (row_of m ps) ≡ ps
ones-of-row {m} {ps} a = places-are (coord (row_of m ps)) 0 m m (omega arith) a (λ i l u.
    coord-from (bytes_for m) m (is_place ps) (omega arith) i u ∙ mod-eq_of_lt (place-lt ps i))

pub places-read : {m free : ℕ} {ps : List ℕ} (rest : List ℕ) → Ascending m free ps → m ≤ number_limit →
    read_places m free (length ps) (steps free ps ++ rest) ≡ got ps rest
unfolding read_places steps
places-read rest none h = refl
places-read {m} {free} {ps = p ∷ ps} rest (more l u a) h =
    let e : free + (p - free) ≡ p = omega arith in
    rw (append_assoc, read-written (p - free) (steps (p + 1) ps ++ rest) (omega arith), e, lt-ltb p m u, places-read rest a h)

pub after-got : (x : List ℕ) (y : Read (List ℕ)) {z rest : List ℕ} → after x y ≡ got z rest → (w : List ℕ) × (y ≡ got w rest) × (z ≡ x ++ w)
after-got x (refused f) e = no_value e
after-got x (got w s) e = (w, (cc), (cc))

-- places that were read: their bytes, their number, and that bytes are left
pub record PlacesRead (m free count : ℕ) (s ps rest : List ℕ) : Type 0 where
  pub are_steps : s ≡ steps free ps ++ rest
  pub counted : length ps ≡ count
  pub ascending : Ascending m free ps
  pub bytes : Bytes rest

pub places-written : (m free count : ℕ) (s ps rest : List ℕ) → Bytes s → read_places m free count s ≡ got ps rest → PlacesRead m free count s ps rest
unfolding read_places steps
places-written m free zero s ps rest small e =
    let ep : [] ≡ ps = cc in
    let er : s ≡ rest = cc in
    rw (← ep, ← er) (record { are_steps = refl; counted = refl; ascending = none; bytes = small })
places-written m free (suc count) s ps rest small e =
    let (k, q, e1, e2) = parts (read_number s) (λ step r. choose (ltb (free + step) m) (after ((free + step) ∷ []) (read_places m (free + step + 1) count r)) (refused card_place)) e in
    let n = written_read_lem s k q small e1 in
    let t = passed (ltb (free + k) m) _ card_place e2 in
    let (w, e3, e4) = after-got ((free + k) ∷ []) (read_places m (free + k + 1) count q) t.1 in
    let r = places-written m (free + k + 1) count q w rest n.bytes e3 in
    let step : free + k - free ≡ k = omega arith in
    let l : free ≤ free + k = omega arith in
    rw e4 (record {
      are_steps = n.is_number ∙ rw (step, append_assoc, ← r.are_steps);
      counted = rw r.counted;
      ascending = more l (ltb-true (free + k) m t.0) r.ascending;
      bytes = r.bytes;
    })

-- a row of ascending places
pub row_read : (m : ℕ) (x rest : List ℕ) → m < number_limit → read_row m (row_card m x ++ rest) ≡ got (ones_of m x) rest
unfolding read_row row_card
row_read m x rest h =
    let a = places-ascend (coord x) 0 m m (omega arith) in
    let l = count-le a in
    rw (append_assoc, read-written (length (ones_of m x)) (steps 0 (ones_of m x) ++ rest) (omega arith), le-leb (length (ones_of m x)) m (omega arith), places-read rest a (omega arith))

pub record RowRead (m : ℕ) (s ps rest : List ℕ) : Type 0 where
  pub is_row : s ≡ row_card m (row_of m ps) ++ rest
  pub bytes : Bytes rest

pub row_written : (m : ℕ) (s ps rest : List ℕ) → Bytes s → read_row m s ≡ got ps rest → RowRead m s ps rest
unfolding read_row row_card
row_written m s ps rest small e =
    let (k, q, e1, e2) = parts (read_number s) (λ count r. choose (leb count m) (read_places m 0 count r) (refused card_place)) e in
    let n = written_read_lem s k q small e1 in
    let t = passed (leb k m) _ card_place e2 in
    let r = places-written m 0 k q ps rest n.bytes t.1 in
    record {
      is_row = n.is_number ∙ rw (ones-of-row r.ascending, r.counted, append_assoc, ← r.are_steps);
      bytes = r.bytes;
    }
