-- Reading a card decides the causes of its faults, part by part: a number, a place, a row, rows, the head, the card.
-- Each part both ways: what is refused has its cause, and what has the cause is refused.
use Rattle.std.specs.Prelude.{Ok, Err}
use mathlib.Core.Path.{◌≡◌, refl, sym, ap, ◌∙◌}
use mathlib.Core.Logic.{◌⊎◌, inl, inr, ⊎_elim}
use mathlib.Core.Bool.{Bool, true, false}
use mathlib.Core.List.{List, [], ◌∷◌, ◌++◌, append_assoc}
use Prim.Native.Nat.{ℕ, zero, suc, ◌+◌, ◌-◌, ◌*◌, ◌<◌, ◌≤◌}
use native.Mathlib.Omega.{arith}
use lib.Dec.{ltb, leb, eqb}
use lib.ListN.{length}
use borrow.Author.Tests.{ltb-true, ltb-false, lt-ltb, le-ltb, leb-true, leb-false, le-leb, lt-leb, eqb-true, eqb-false, eq-eqb, ne_eqb}
use Rattle.judging.specs.declared.fault.Fault.{Fault}
use Rattle.judging.specs.declared.fault.Fault.TheVariants.{Width, Call}
use Rattle.judging.specs.declared.fault.CallFault.TheVariants.{OutputShort}
use Rattle.gf2.specs.Operands.{max_width, bytes_for, choose}
use Rattle.gf2.proofs.Operands.{from-operand}
use Rattle.judging.specs.Faults.{card_number, card_form, card_place, card_tail}
use Rattle.card.specs.Numbers.{Read, refused, got, and_then, second_group, read_number}
use Rattle.card.specs.Rows.{steps, ones_of, after, read_places, read_row, is_place, row_of, read_rows}
use Rattle.card.specs.Cards.{lent_causes, lent_verdict, passed, read_width, read_head, Table, ended, read_card}
use Rattle.card.specs.Statements.{Bytes}
use Rattle.card.proofs.Numbers.{no_value, parts, read-written, written_read_lem}
use Rattle.card.proofs.Places.{after-got, row_read, row_written}
use Rattle.card.proofs.Trips.{lent_none, head-parts, card-read, card-written}
use Rattle.card.specs.Calls.{read_answer}
use Rattle.judging.specs.Causes.{Verdict, verdict_of}
use Rattle.judging.proofs.CauseLaws.{same_fault, ok_or_err}
use Rattle.judging.specs.FaultTable.{bad_width as wrong_width, too_short, BadWidth}
use Rattle.promises.proofs.CauseLaws.{Decides, decides, wide}
use Rattle.promises.specs.CardCauses.{Stands, BadNumber, no_group, no_second, bad_second, Ordered, free_after, BadPlace, no_place, place_above, BadRow, no_count, count_above, at_place, RowsStand, HeadStands, BadCard, no_form, other_form, no_width, bad_width, no_room, at_row, bytes_after, GoodCard, ExactCard}

refused-is : {A : Type 0} {f g : Fault} → ◌≡◌ {A = Read A} (refused f) (refused g) → g ≡ f
refused-is e = cc

no-fault : {A B : Type 0} {f : Fault} {a : A} {rest : List ℕ} → got a rest ≡ refused f → B
no-fault e = no_value (sym e)

-- numbers
second-refused : (low : ℕ) (s : List ℕ) (f : Fault) → 128 ≤ low → second_group (low - 128) s ≡ refused f → BadNumber (low ∷ s) f
unfolding second_group
second-refused low [] f l e = no_second low l refl (refused-is e)
second-refused low (high ∷ rest) f l e = go (eqb high 0) (ltb high 128) refl refl e
  where
    go : (z t : Bool) → eqb high 0 ≡ z → ltb high 128 ≡ t → choose z (refused card_number) (choose t (got (low - 128 + high * 128) rest) (refused card_number)) ≡ refused f → BadNumber (low ∷ high ∷ rest) f
    go true t p q e = bad_second low high rest l refl (inl (eqb-true high 0 p)) (refused-is e)
    go false true p q e = no-fault e
    go false false p q e = bad_second low high rest l refl (inr (ltb-false high 128 q)) (refused-is e)

number-refused : (s : List ℕ) (f : Fault) → read_number s ≡ refused f → BadNumber s f
unfolding read_number
number-refused [] f e = no_group refl (refused-is e)
number-refused (low ∷ s) f e = go (ltb low 128) refl e
  where
    go : (t : Bool) → ltb low 128 ≡ t → choose t (got low s) (second_group (low - 128) s) ≡ refused f → BadNumber (low ∷ s) f
    go true p e = no-fault e
    go false p e = second-refused low s f (ltb-false low 128 p) e

number-bad : (s : List ℕ) (f : Fault) → BadNumber s f → read_number s ≡ refused f
unfolding read_number second_group
number-bad s f (no_group e q) = rw (e, q)
number-bad s f (no_second low l e q) = rw (e, q, le-ltb low 128 l)
number-bad s f (bad_second low high rest l e (inl z) q) = rw (e, q, le-ltb low 128 l, eq-eqb high 0 z)
number-bad s f (bad_second low high rest l e (inr h) q) =
    let n : ¬ (high ≡ 0) = λ z. omega arith in
    rw (e, q, le-ltb low 128 l, ne_eqb high 0 n, le-ltb high 128 h)

number-stands : (n : ℕ) (s rest : List ℕ) → Stands n s rest → read_number s ≡ got n rest
number-stands n s rest h = rw h.written (read-written n rest h.small)

number-got : (n : ℕ) (s rest : List ℕ) → Bytes s → read_number s ≡ got n rest → Stands n s rest × Bytes rest
number-got n s rest small e = let r = written_read_lem s n rest small e in (record { small = r.small; written = r.is_number }, r.bytes)

-- two parts of which one is refused, and a test that has failed
fails : {A B : Type 0} (x : Read A) (next : A → List ℕ → Read B) {f : Fault} → and_then x next ≡ refused f →
    (x ≡ refused f) ⊎ ((a : A) × (s : List ℕ) × (x ≡ got a s) × (next a s ≡ refused f))
fails (refused g) next e = inl (ap refused (sym (refused-is e)))
fails (got a s) next e = inr (a, s, refl, e)

unpassed : {A : Type 0} (t : Bool) (x : Read A) (g : Fault) {f : Fault} → choose t x (refused g) ≡ refused f →
    ((t ≡ true) × (x ≡ refused f)) ⊎ ((t ≡ false) × (f ≡ g))
unpassed true x g e = inl (refl, e)
unpassed false x g e = inr (refl, refused-is e)

not_passed : {A : Type 0} (v : Verdict) (a : A) (rest : List ℕ) {f : Fault} → passed v a rest ≡ refused f → v ≡ Err f
not_passed (Ok _) a rest e = no-fault e
not_passed (Err g) a rest e = ap Err (sym (refused-is e))

after-refused : (x : List ℕ) (y : Read (List ℕ)) {f : Fault} → after x y ≡ refused f → y ≡ refused f
after-refused x (refused g) e = ap refused (sym (refused-is e))
after-refused x (got w s) e = no-fault e

-- places: some stand, and the next does not
record PlacesFail (m free count : ℕ) (s : List ℕ) (f : Fault) : Type 0 where
  ps : List ℕ
  rest : List ℕ
  fewer : length ps < count
  ordered : Ordered m free ps
  are_steps : s ≡ steps free ps ++ rest
  bad : BadPlace m (free_after free ps) rest f

places-refused : (m free count : ℕ) (s : List ℕ) (f : Fault) → Bytes s → read_places m free count s ≡ refused f → PlacesFail m free count s f
unfolding read_places steps
places-refused m free zero s f small e = no-fault e
places-refused m free (suc count) s f small e =
    elim (fails (read_number s) (λ step r. choose (ltb (free + step) m) (after ((free + step) ∷ []) (read_places m (free + step + 1) count r)) (refused card_place)) e) [
      | inl q ↦ record { ps = []; rest = s; fewer = omega arith; ordered = tt; are_steps = refl; bad = no_place (number-refused s f q) }
      | inr w ↦
          let k = w.0 in
          let r = w.1 in
          let n = number-got k s r small w.2 in
          elim (unpassed (ltb (free + k) m) (after ((free + k) ∷ []) (read_places m (free + k + 1) count r)) card_place w.3) [
            | inl t ↦
                let h = places-refused m (free + k + 1) count r f n.1 (after-refused ((free + k) ∷ []) _ t.1) in
                let few = h.fewer in
                let step : free + k - free ≡ k = omega arith in
                record {
                  ps = (free + k) ∷ h.ps;
                  rest = h.rest;
                  fewer = omega arith;
                  ordered = (omega arith, ltb-true (free + k) m t.0, h.ordered);
                  are_steps = n.0.written ∙ rw (step, append_assoc, ← h.are_steps);
                  bad = h.bad;
                }
            | inr t ↦ record { ps = []; rest = s; fewer = omega arith; ordered = tt; are_steps = refl; bad = place_above k r n.0 (ltb-false (free + k) m t.0) t.1 }
          ]
    ]

place-bad : (m free count : ℕ) (s : List ℕ) (f : Fault) → BadPlace m free s f → read_places m free (suc count) s ≡ refused f
unfolding read_places
place-bad m free count s f (no_place b) = rw (number-bad s f b)
place-bad m free count s f (place_above gap rest n h q) = rw (number-stands gap s rest n, le-ltb (free + gap) m h, q)

places-bad : (m free count : ℕ) (ps s rest : List ℕ) (f : Fault) → m ≤ max_width → length ps < count → Ordered m free ps → s ≡ steps free ps ++ rest → BadPlace m (free_after free ps) rest f → read_places m free count s ≡ refused f
unfolding read_places steps
places-bad m free zero ps s rest f w l o e b = absurd (omega arith)
places-bad m free (suc count) [] s rest f w l o e b = rw e (place-bad m free count rest f b)
places-bad m free (suc count) (p ∷ ps) s rest f w l o e b =
    let u = o.1 in
    let step : free + (p - free) ≡ p = (let low = o.0 in omega arith) in
    let few : length ps < count = omega arith in
    let after-it = places-bad m (p + 1) count ps (steps (p + 1) ps ++ rest) rest f w few o.2 refl b in
    rw (e, append_assoc, read-written (p - free) (steps (p + 1) ps ++ rest) (omega arith), step, lt-ltb p m u, after-it)

-- rows
row-refused : (m : ℕ) (s : List ℕ) (f : Fault) → Bytes s → read_row m s ≡ refused f → BadRow m s f
unfolding read_row
row-refused m s f small e =
    elim (fails (read_number s) (λ count r. choose (leb count m) (read_places m 0 count r) (refused card_place)) e) [
      | inl q ↦ no_count (number-refused s f q)
      | inr w ↦
          let k = w.0 in
          let r = w.1 in
          let n = number-got k s r small w.2 in
          elim (unpassed (leb k m) (read_places m 0 k r) card_place w.3) [
            | inl t ↦
                let h = places-refused m 0 k r f n.1 t.1 in
                at_place k r h.ps h.rest n.0 (leb-true k m t.0) h.fewer h.ordered h.are_steps h.bad
            | inr t ↦ count_above k r n.0 (leb-false k m t.0) t.1
          ]
    ]

row-bad : (m : ℕ) (s : List ℕ) (f : Fault) → m ≤ max_width → BadRow m s f → read_row m s ≡ refused f
unfolding read_row
row-bad m s f w (no_count b) = rw (number-bad s f b)
row-bad m s f w (count_above n rest h l q) = rw (number-stands n s rest h, lt-leb n m l, q)
row-bad m s f w (at_place n middle ps rest h l few o e b) =
    rw (number-stands n s middle h, le-leb n m l) (places-bad m 0 n ps middle rest f w few o e b)

record RowsFail (m count : ℕ) (s : List ℕ) (f : Fault) : Type 0 where
  d : ℕ
  rest : List ℕ
  fewer : d < count
  stand : RowsStand m d s rest
  bad : BadRow m rest f

rows-refused : (m count : ℕ) (s : List ℕ) (f : Fault) → Bytes s → read_rows m count s ≡ refused f → RowsFail m count s f
unfolding read_rows
rows-refused m zero s f small e = no-fault e
rows-refused m (suc count) s f small e =
    elim (fails (read_row m s) (λ ps r. after (row_of m ps) (read_rows m count r)) e) [
      | inl q ↦ record { d = 0; rest = s; fewer = omega arith; stand = refl; bad = row-refused m s f small q }
      | inr w ↦
          let ps = w.0 in
          let r = w.1 in
          let one = row_written m s ps r small w.2 in
          let h = rows-refused m count r f one.bytes (after-refused (row_of m ps) (read_rows m count r) w.3) in
          let few = h.fewer in
          record {
            d = suc h.d;
            rest = h.rest;
            fewer = omega arith;
            stand = (row_of m ps, r, from-operand (bytes_for m) m (is_place ps), one.is_row, h.stand);
            bad = h.bad;
          }
    ]

rows-bad : (m count d : ℕ) (s rest : List ℕ) (f : Fault) → m ≤ max_width → d < count → RowsStand m d s rest → BadRow m rest f → read_rows m count s ≡ refused f
unfolding read_rows
rows-bad m zero d s rest f w l h b = absurd (omega arith)
rows-bad m (suc count) zero s rest f w l h b = rw (h, row-bad m rest f w b)
rows-bad m (suc count) (suc d) s rest f w l h b =
    let more = rows-bad m count d h.1 rest f w (omega arith) h.4 b in
    rw (h.3, row_read m h.0 h.1 (omega arith), more)

-- rows that all stand
rows-got : (m count : ℕ) (s rest : List ℕ) → m ≤ max_width → RowsStand m count s rest → (t : List ℕ) × (read_rows m count s ≡ got t rest)
unfolding read_rows
rows-got m zero s rest w h = ([], ap (got []) h)
rows-got m (suc count) s rest w h =
    let more = rows-got m count h.1 rest w h.4 in
    (row_of m (ones_of m h.0) ++ more.0, rw (h.3, row_read m h.0 h.1 (omega arith), more.1))

rows-stand : (m count : ℕ) (s t rest : List ℕ) → Bytes s → read_rows m count s ≡ got t rest → RowsStand m count s rest
unfolding read_rows
rows-stand m zero s t rest small e = cc
rows-stand m (suc count) s t rest small e =
    let (ps, r, e1, e2) = parts (read_row m s) (λ ps r. after (row_of m ps) (read_rows m count r)) e in
    let (w, e3, e4) = after-got (row_of m ps) (read_rows m count r) e2 in
    let one = row_written m s ps r small e1 in
    (row_of m ps, r, from-operand (bytes_for m) m (is_place ps), one.is_row, rows-stand m count r w rest one.bytes e3)

-- the head
lent-causes : (room m : ℕ) (f : Fault) → lent_verdict room m ≡ Err f →
    (BadWidth m × (f ≡ Width)) ⊎ ((2 ≤ m) × (m ≤ max_width) × (room < m * bytes_for m) × (f ≡ (Call OutputShort)))
lent-causes room m f e = go (decides (lent_causes room m) (lent_verdict room m) refl)
  where
    go : Decides (wrong_width m ∷ too_short room (m * bytes_for m) ∷ []) (lent_verdict room m) → (BadWidth m × (f ≡ Width)) ⊎ ((2 ≤ m) × (m ≤ max_width) × (room < m * bytes_for m) × (f ≡ (Call OutputShort)))
    go (inl h) = inl (h.0, same_fault (lent_verdict room m) e h.1)
    go (inr (n, inl h)) = let r = wide n in inr (r.0, r.1, h.0, same_fault (lent_verdict room m) e h.1)
    go (inr (n, inr h)) = ok_or_err (sym e ∙ h.1)

lent-bad : (room m : ℕ) → BadWidth m → lent_verdict room m ≡ Err Width
lent-bad room m b = go (decides (lent_causes room m) (lent_verdict room m) refl)
  where
    go : Decides (wrong_width m ∷ too_short room (m * bytes_for m) ∷ []) (lent_verdict room m) → lent_verdict room m ≡ Err Width
    go (inl h) = h.1
    go (inr h) = absurd (h.0 b)

lent-short : (room m : ℕ) → 2 ≤ m → m ≤ max_width → room < m * bytes_for m → lent_verdict room m ≡ Err (Call OutputShort)
lent-short room m least greatest short = go (decides (lent_causes room m) (lent_verdict room m) refl)
  where
    go : Decides (wrong_width m ∷ too_short room (m * bytes_for m) ∷ []) (lent_verdict room m) → lent_verdict room m ≡ Err (Call OutputShort)
    go (inl h) = absurd (h.0 (least, greatest))
    go (inr (n, inl h)) = h.1
    go (inr (n, inr h)) = absurd (h.0 short)

head-refused : (room : ℕ) (s : List ℕ) (f : Fault) → Bytes s → read_head room s ≡ refused f → BadCard room s f
unfolding read_head read_width
head-refused room s f small e =
    elim (fails (read_number s) (λ form r. choose (eqb form 1) (read_width room r) (refused card_form)) e) [
      | inl q ↦ no_form (number-refused s f q)
      | inr w ↦
          let form = w.0 in
          let middle = w.1 in
          let n = number-got form s middle small w.2 in
          elim (unpassed (eqb form 1) (read_width room middle) card_form w.3) [
            | inl t ↦
                let one : Stands 1 s middle = rw (eqb-true form 1 t.0) at n.0 in
                elim (fails (read_number middle) (λ m r. passed (lent_verdict room m) m r) t.1) [
                  | inl q ↦ no_width middle one (number-refused middle f q)
                  | inr v ↦
                      let m = v.0 in
                      let rest = v.1 in
                      let k = number-got m middle rest n.1 v.2 in
                      ⊎_elim
                      (λ h. bad_width m middle rest one k.0 h.0 h.1)
                      (λ h. no_room m middle rest one k.0 (h.0, h.1) h.2 h.3)
                      (lent-causes room m f (not_passed (lent_verdict room m) m rest v.3))
                ]
            | inr t ↦ other_form form middle n.0 (eqb-false form 1 t.0) t.1
          ]
    ]

head-got : (room : ℕ) (s : List ℕ) (m : ℕ) (rest : List ℕ) → Bytes s → read_head room s ≡ got m rest → HeadStands room s m rest × Bytes rest
head-got room s m rest small e =
    let h = head-parts room s m rest e in
    let one = number-got 1 s h.middle small h.form in
    let k = number-got m h.middle rest one.1 h.width in
    (record { middle = h.middle; form = one.0; width = k.0; least = h.lent.least; greatest = h.lent.greatest; fits = h.lent.fits }, k.1)

head-stands : (room : ℕ) (s : List ℕ) (m : ℕ) (rest : List ℕ) → HeadStands room s m rest → read_head room s ≡ got m rest
unfolding read_head read_width
head-stands room s m rest h = rw (
  number-stands 1 s h.middle h.form,
  number-stands m h.middle rest h.width,
  lent_none (record { least = h.least; greatest = h.greatest; fits = h.fits }),
)

-- the whole card
ended-refused : (m : ℕ) (x : Read (List ℕ)) {f : Fault} → ended m x ≡ refused f →
    (x ≡ refused f) ⊎ ((t : List ℕ) × (b : ℕ) × (rest : List ℕ) × (x ≡ got t (b ∷ rest)) × (f ≡ card_tail))
ended-refused m (refused g) e = inl (ap refused (sym (refused-is e)))
ended-refused m (got t []) e = no-fault e
ended-refused m (got t (b ∷ rest)) e = inr (t, b, rest, refl, refused-is e)

card-refused : (room : ℕ) (s : List ℕ) (f : Fault) → Bytes s → read_card room s ≡ refused f → BadCard room s f
unfolding read_card
card-refused room s f small e =
    elim (fails (read_head room s) (λ m rest. ended m (read_rows m m rest)) e) [
      | inl q ↦ head-refused room s f small q
      | inr w ↦
          let m = w.0 in
          let middle = w.1 in
          let h = head-got room s m middle small w.2 in
          elim (ended-refused m (read_rows m m middle) w.3) [
            | inl q ↦
                let r = rows-refused m m middle f h.1 q in
                at_row m r.d middle r.rest h.0 r.fewer r.stand r.bad
            | inr v ↦ bytes_after m v.1 middle v.2 h.0 (rows-stand m m middle v.0 (v.1 ∷ v.2) h.1 v.3) v.4
          ]
    ]

card-bad : (room : ℕ) (s : List ℕ) (f : Fault) → BadCard room s f → read_card room s ≡ refused f
unfolding read_card read_head read_width
card-bad room s f (no_form b) = rw (number-bad s f b)
card-bad room s f (other_form form rest h n q) = rw (number-stands form s rest h, ne_eqb form 1 n, q)
card-bad room s f (no_width rest h b) = rw (number-stands 1 s rest h, number-bad rest f b)
card-bad room s f (bad_width m middle rest h k b q) = rw (number-stands 1 s middle h, number-stands m middle rest k, lent-bad room m b, q)
card-bad room s f (no_room m middle rest h k r short q) =
    rw (number-stands 1 s middle h, number-stands m middle rest k, lent-short room m r.0 r.1 short, q)
card-bad room s f (at_row m d middle rest h l stand b) =
    let e = head-stands room s m middle h in
    let r = rows-bad m m d middle rest f h.greatest l stand b in
    ap (λ x. and_then x (λ m rest. ended m (read_rows m m rest))) e ∙ ap (ended m) r
card-bad room s f (bytes_after m b middle rest h stand q) =
    let e = head-stands room s m middle h in
    let r = rows-got m m middle (b ∷ rest) h.greatest stand in
    ap (λ x. and_then x (λ m rest. ended m (read_rows m m rest))) e ∙ ap (ended m) r.1 ∙ ap refused (sym q)

pub good-read : {room m : ℕ} {s table : List ℕ} → GoodCard room s m table → read_card room s ≡ got (record { width = m; bytes = table }) []
good-read {room} {m} {s} {table} g =
    rw g.is_card (card-read room m table (record { least = g.least; greatest = g.greatest; fits = g.fits }) g.is_table)

pub card-exact : (room : ℕ) (s : List ℕ) → Bytes s → ExactCard room s (verdict_of (read_answer (read_card room s)))
card-exact room s small = go (read_card room s) refl
  where
    go : (x : Read Table) → read_card room s ≡ x → ExactCard room s (verdict_of (read_answer x))
    go (refused g) q = record {
      given = λ f. (
        λ e. card-refused room s f small (q ∙ ap refused (same_fault (Err g) refl e)),
        λ b. ap Err (sym (refused-is (sym q ∙ card-bad room s f b))),
      );
      none = (λ e. ok_or_err e, λ h. no_value (sym q ∙ good-read h.2));
    }
    go (got t rest) q = record {
      given = λ f. (λ e. ok_or_err (sym e), λ b. no-fault (sym q ∙ card-bad room s f b));
      none = (λ e. let r = card-written room s t rest small q in (t.width, t.bytes, record { least = r.lent.least; greatest = r.lent.greatest; fits = r.lent.fits; is_table = r.is_table; is_card = r.is_card }), λ h. refl);
    }
