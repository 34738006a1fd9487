-- What a refusal of a card can be: a fault of the card's own, or one of its width. A test of faults that is false of each of these
-- is false of every refusal.
use Rattle.std.specs.Prelude.{Ok, Err}
use mathlib.Core.Path.{◌≡◌, refl, sym, ap, ◌∙◌}
use mathlib.Core.Bool.{Bool, true, false}
use mathlib.Core.List.{List, [], ◌∷◌}
use Prim.Native.Nat.{ℕ, zero, suc, ◌+◌, ◌-◌, ◌*◌}
use lib.Dec.{ltb, leb, eqb}
use Rattle.gf2.specs.Operands.{choose}
use Rattle.judging.specs.declared.fault.Fault.{Fault}
use Rattle.judging.specs.Causes.{Verdict}
use Rattle.judging.specs.Faults.{card_ends, card_number, card_form, card_place, card_tail}
use Rattle.card.specs.Numbers.{Read, refused, got, and_then, second_group, read_number}
use Rattle.card.specs.Rows.{after, read_places, read_row, row_of, read_rows}
use Rattle.card.specs.Cards.{lent_verdict, passed, read_width, read_head, ended, read_card}

-- the test is false of each fault that a card can have, where the lent table has `room` bytes
pub record Apart (test : Fault → Bool) (room : ℕ) : Type 0 where
  pub ends : test card_ends ≡ false
  pub number : test card_number ≡ false
  pub form : test card_form ≡ false
  pub place : test card_place ≡ false
  pub tail : test card_tail ≡ false
  pub lent : (m : ℕ) (f : Fault) → lent_verdict room m ≡ Err f → test f ≡ false

-- what was read is a refusal of which the test is true
abbrev meets : {A : Type 0} → (Fault → Bool) → Read A → Bool
meets test (refused f) = test f
meets test (got a rest) = false

module _ (test : Fault → Bool) where
  then-apart : {A B : Type 0} (x : Read A) (next : A → List ℕ → Read B) → meets test x ≡ false → ((a : A) (s : List ℕ) → meets test (next a s) ≡ false) → meets test (and_then x next) ≡ false
  then-apart (refused f) next b h = b
  then-apart (got a s) next b h = h a s

  pick-apart : {A : Type 0} (t : Bool) (x y : Read A) → meets test x ≡ false → meets test y ≡ false → meets test (choose t x y) ≡ false
  pick-apart true x y hx hy = hx
  pick-apart false x y hx hy = hy

  passed-apart : {A : Type 0} (v : Verdict) (a : A) (s : List ℕ) → ((f : Fault) → v ≡ Err f → test f ≡ false) → meets test (passed v a s) ≡ false
  passed-apart (Ok u) a s h = refl
  passed-apart (Err f) a s h = h f refl

  after-apart : (x : List ℕ) (y : Read (List ℕ)) → meets test y ≡ false → meets test (after x y) ≡ false
  after-apart x (refused f) h = h
  after-apart x (got y s) h = h

module _ (test : Fault → Bool) (room : ℕ) (apart : Apart test room) where
  second-apart : (low : ℕ) (s : List ℕ) → meets test (second_group low s) ≡ false
  unfolding second_group
  second-apart low [] = apart.ends
  second-apart low (g ∷ s) =
      pick-apart test (eqb g 0) (refused card_number) _ apart.number (pick-apart test (ltb g 128) (got (low + g * 128) s) (refused card_number) refl apart.number)

  number-apart : (s : List ℕ) → meets test (read_number s) ≡ false
  unfolding read_number
  number-apart [] = apart.ends
  number-apart (g ∷ s) = pick-apart test (ltb g 128) (got g s) _ refl (second-apart (g - 128) s)

  places-apart : (m free count : ℕ) (s : List ℕ) → meets test (read_places m free count s) ≡ false
  unfolding read_places
  places-apart m free zero s = refl
  places-apart m free (suc count) s = then-apart test (read_number s) _ (number-apart s) (λ k r.
      pick-apart test (ltb (free + k) m) _ (refused card_place) (after-apart test ((free + k) ∷ []) (read_places m (free + k + 1) count r) (places-apart m (free + k + 1) count r)) apart.place)

  row_apart : (m : ℕ) (s : List ℕ) → meets test (read_row m s) ≡ false
  unfolding read_row
  row_apart m s = then-apart test (read_number s) _ (number-apart s) (λ k r. pick-apart test (leb k m) _ (refused card_place) (places-apart m 0 k r) apart.place)

  rows_apart : (m count : ℕ) (s : List ℕ) → meets test (read_rows m count s) ≡ false
  unfolding read_rows
  rows_apart m zero s = refl
  rows_apart m (suc count) s = then-apart test (read_row m s) _ (row_apart m s) (λ ps r. after-apart test (row_of m ps) (read_rows m count r) (rows_apart m count r))

  width-apart : (s : List ℕ) → meets test (read_width room s) ≡ false
  unfolding read_width
  width-apart s = then-apart test (read_number s) _ (number-apart s) (λ m r. passed-apart test (lent_verdict room m) m r (apart.lent m))

  ended-apart : (m : ℕ) (x : Read (List ℕ)) → meets test x ≡ false → meets test (ended m x) ≡ false
  ended-apart m (refused f) h = h
  ended-apart m (got t []) h = refl
  ended-apart m (got t (b ∷ s)) h = apart.tail

  card-apart : (s : List ℕ) → meets test (read_card room s) ≡ false
  unfolding read_card read_head
  card-apart s = then-apart test (read_head room s) _
      (then-apart test (read_number s) _ (number-apart s) (λ f r. pick-apart test (eqb f 1) (read_width room r) (refused card_form) (width-apart r) apart.form))
      (λ m r. ended-apart m (read_rows m m r) (rows_apart m m r))

  pub card-refusals : (s : List ℕ) (f : Fault) → read_card room s ≡ refused f → test f ≡ false
  card-refusals s f e = sym (ap (meets test) e) ∙ card-apart s
