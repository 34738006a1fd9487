-- What the calls answer, from what their parts give.
-- Buffers: kept and filled. Values: zero, one, sum, trace, solution. Bits judged on carried bytes.
use Rattle.std.specs.Prelude.{Ok, Err, IsErrAnd}
use mathlib.Core.Path.{◌≡◌, refl, sym, ap, ap₂, ◌∙◌}
use mathlib.Core.Bool.{true, not}
use mathlib.Core.List.{List, [], ◌∷◌}
use Prim.Native.Nat.{ℕ, suc, ◌+◌, ◌*◌, ◌/◌, ◌%◌, ◌^◌, ◌<◌, ◌≤◌}
use native.Mathlib.Nat.{mod-mod}
use native.Mathlib.Decide.{dec_lt}
use native.Mathlib.Omega.{arith}
use lib.ListN.{length, replicate, get_or-replicate}
use lib.Dec.{eqb}
use borrow.Author.Tests.{eqb-true}
use Rattle.gf2.specs.Sums.{sum, every}
use Rattle.gf2.specs.Coordinates.{coord, value, tabulate, pack}
use Rattle.gf2.specs.Operands.{max_width, bytes_for, carried_bytes, IsOperand, is_clear, carried_by, below, from_coords, zeroes, ones, added, turned}
use Rattle.gf2.specs.Quadratic.{trace, root_coord, root}
use Rattle.gf2.proofs.Sums.{sum-clear, every-at}
use Rattle.gf2.proofs.Coordinates.{pack-ext, length-pack}
use Rattle.gf2.proofs.Operands.{below_in, below_out, from-ext, length_from, clear_at, clear-pack}
use Rattle.gf2.proofs.Carrying.{HasBytes, has-bytes, same-coord, clear-carried, written-carried, turned-carried, turned-is}
use Rattle.limbs.specs.Limbs.{carried_limbs, reach, limb_coord, pack_limbs, limbs_of}
use Rattle.limbs.proofs.Reach.{reach-room}
use Rattle.limbs.proofs.LimbCoords.{limb-pack, limbs-ext, limbs-zero, limbs-below, slice-same, limbs-same}
use Rattle.quadratic.proofs.QuadraticLimbs.{root-from}
use Rattle.judging.specs.declared.fault.Fault.{Fault}
use Rattle.judging.specs.Causes.{Cause, Verdict, judged}
use Rattle.judging.specs.FaultTable.{bad_width, bad_length, high_bit, trace_is_one}
use Rattle.judging.proofs.CauseLaws.{same_head, fine, handed_on}
use Rattle.judging.proofs.Passed.{IsWidth, is-width, as-laid-down, is-clear}
use Rattle.turns.specs.Moves.{rolled}
use Rattle.turns.proofs.Turns.{rolled-turned, rolled-limbs}
use Rattle.operand.specs.declared.Operand.{Operand}
use Rattle.operand.specs.Causes.{operand_causes}
use Rattle.operand.specs.Calls.{written}

-- a buffer after a call: where it is refused, and where it is not
pub kept : {v : Verdict} {f : Fault} (z old : List ℕ) → v ≡ Err f → old ≡ written v z old
kept z old e = rw e

pub filled : {v : Verdict} (z old : List ℕ) {new : List ℕ} → v ≡ Ok tt → new ≡ z → new ≡ written v z old
filled z old e q = rw e q

-- the verdict with it: of a call that ends at a `?` with the fault, and of one that comes to its end
pub ends-kept : {v : Verdict} {f : Fault} (r : Verdict) (z old : List ℕ) → IsErrAnd r (λ g. g ≡ f) → Err f ≡ v → (r ≡ v) × (old ≡ written v z old)
ends-kept r z old e h = (handed_on r e h, kept z old (sym h))

pub ends-filled : {v : Verdict} (z old : List ℕ) {new : List ℕ} → Ok tt ≡ v → new ≡ z → (Ok tt ≡ v) × (new ≡ written v z old)
ends-filled z old h q = (h, filled z old (sym h) q)

-- a carried result, written to W bytes
pub written_out : {m n : ℕ} {x new y : List ℕ} → m ≤ max_width → IsOperand (bytes_for m) m x → n ≡ bytes_for m → new ≡ pack n (coord y) → y ≡ carried_by x → new ≡ x
written_out {n = n} g is room p q = p ∙ ap (λ y. pack n (coord y)) q ∙ written-carried (has-bytes g is) is room

-- lengths that are as laid down: of one operand, of an operand and a result, of two and a result
abbrev pub one_size : ℕ → ℕ → List Cause
one_size m a = bad_width m ∷ bad_length a (bytes_for m) ∷ []

pub has-size : (m : ℕ) (a : List ℕ) → judged (one_size m (length a)) ≡ Ok tt → HasBytes m a
has-size m a e = let p = fine (one_size m (length a)) e in record { greatest = (is-width m p.0).greatest; size = as-laid-down _ _ p.1.0 }

abbrev pub size_causes : ℕ → ℕ → ℕ → List Cause
size_causes m a old = bad_width m ∷ bad_length a (bytes_for m) ∷ bad_length old (bytes_for m) ∷ []

abbrev pub pair_sizes : ℕ → ℕ → ℕ → ℕ → List Cause
pair_sizes m a b old = bad_width m ∷ bad_length a (bytes_for m) ∷ bad_length b (bytes_for m) ∷ bad_length old (bytes_for m) ∷ []

pub record Sized (m : ℕ) (a old : List ℕ) : Type 0 where
  pub width : IsWidth m
  pub operand : HasBytes m a
  pub room : length old ≡ bytes_for m

pub sized : (m : ℕ) (a old : List ℕ) → judged (size_causes m (length a) (length old)) ≡ Ok tt → Sized m a old
sized m a old e =
    let p = fine (size_causes m (length a) (length old)) e in
    let w = is-width m p.0 in
    record { width = w; operand = record { greatest = w.greatest; size = as-laid-down _ _ p.1.0 }; room = as-laid-down _ _ p.1.1.0 }

pub record SizedPair (m : ℕ) (a b old : List ℕ) : Type 0 where
  pub width : IsWidth m
  pub left : HasBytes m a
  pub right : HasBytes m b
  pub room : length old ≡ bytes_for m

pub sized-pair : (m : ℕ) (a b old : List ℕ) → judged (pair_sizes m (length a) (length b) (length old)) ≡ Ok tt → SizedPair m a b old
sized-pair m a b old e =
    let p = fine (pair_sizes m (length a) (length b) (length old)) e in
    let w = is-width m p.0 in
    record {
      width = w;
      left = record { greatest = w.greatest; size = as-laid-down _ _ p.1.0 };
      right = record { greatest = w.greatest; size = as-laid-down _ _ p.1.1.0 };
      room = as-laid-down _ _ p.1.1.1.0;
    }

-- bits may be judged on the carried bytes
pub high_same : {m : ℕ} {a : List ℕ} → HasBytes m a → (cs ds : List Cause) → (is_clear m a ≡ true → judged cs ≡ judged ds)
    → judged (high_bit m (pack carried_bytes (coord a)) ∷ cs) ≡ judged (high_bit m a ∷ ds)
high_same {m} {a} h cs ds e =
    same_head (high_bit m (pack carried_bytes (coord a))) (high_bit m a) cs ds (ap not (clear-carried h)) refl (λ q. e (is-clear m a q))

-- a turn whose width and bits have passed
pub turn-made : (a : Operand) (k : ℕ) {r : List ℕ} → length a.bytes ≡ carried_bytes → judged (operand_causes a) ≡ Ok tt
    → r ≡ pack carried_bytes (rolled a.width k (coord a.bytes)) → r ≡ turned a.width k a.bytes
turn-made a k size e h =
    let p = fine (operand_causes a) e in
    let w = is-width _ p.0 in
    h ∙ rolled-turned w.greatest (omega (arith, w.least)) k a.bytes size (clear_at _ _ (is-clear _ _ p.1.0))

no_bytes : replicate carried_bytes 0 ≡ pack carried_bytes (λ i. 0)
unfolding pack tabulate value sum
no_bytes = refl

pub zero-bytes : (m : ℕ) → replicate carried_bytes 0 ≡ zeroes carried_bytes m
unfolding zeroes
zero-bytes m = no_bytes ∙ clear-pack carried_bytes m (λ i. 0) (λ i h. refl)

all_ones_lem : (i : ℕ) → i < 8 * carried_bytes → coord (replicate carried_bytes 255) i ≡ 1
unfolding coord
all_ones_lem i h = rw (get_or-replicate {A = ℕ} carried_bytes (i / 8) 255 0 (omega arith)) (eqb-true _ _ (every-at 8 (λ j. eqb (255 / 2 ^ j % 2) 1) (unfold every in refl) (i % 8) (omega arith)))

pub one-bytes : (m : ℕ) → m ≤ max_width → from_coords carried_bytes m (coord (replicate carried_bytes 255)) ≡ ones carried_bytes m
unfolding ones
one-bytes m h = from-ext carried_bytes m _ (λ i. 1) (λ i l. ap (λ x. x % 2) (all_ones_lem i (omega arith)))

-- W bytes have room in the carried ones
short : {m : ℕ} {a : List ℕ} → HasBytes m a → length a ≤ carried_bytes
short h = omega (arith, h.greatest, h.size)

-- limbs that are cut at the width, written to W bytes
pub limbs-out : {m n : ℕ} (f : ℕ → ℕ) {l new : List ℕ} → m ≤ max_width → n ≡ bytes_for m → new ≡ pack n (limb_coord l) → l ≡ pack_limbs carried_limbs (below m f)
    → new ≡ from_coords (bytes_for m) m f
unfolding from_coords
limbs-out {m} f {l} h room p q =
    p ∙ ap (λ k. pack k (limb_coord l)) room ∙ pack-ext (bytes_for m) _ (below m f) (λ i l. ap (λ x. limb_coord x i % 2) q ∙ ap (λ x. x % 2) (limb-pack carried_limbs (below m f) i (omega arith)) ∙ mod-mod _ 2)

-- zero and one in W bytes
pub zero-out : (m : ℕ) {n : ℕ} {new : List ℕ} → m ≤ max_width → n ≡ bytes_for m → new ≡ pack n (limb_coord (replicate carried_limbs 0)) → new ≡ zeroes (bytes_for m) m
unfolding zeroes
zero-out m h room p = limbs-out (λ i. 0) h room p (limbs-zero carried_limbs (below m (λ i. 0)) (λ i l. elim (dec_lt i m) [
  | yes q ↦ ap (λ x. x % 2) (below_in m (λ j. 0) i q)
  | no q ↦ ap (λ x. x % 2) (below_out m (λ j. 0) i (omega arith))
]))

-- a limb of ones
abbrev full : ℕ
full = 18446744073709551615

full-ones : (i : ℕ) → i < 64 * carried_limbs → limb_coord (replicate carried_limbs full) i ≡ 1
unfolding limb_coord
full-ones i h = rw (get_or-replicate {A = ℕ} carried_limbs (i / 64) full 0 (omega arith))
    (eqb-true _ _ (every-at 64 (λ j. eqb (full / 2 ^ j % 2) 1) (unfold every in refl) (i % 64) (omega arith)))

pub one_out : (m : ℕ) {n : ℕ} {l new : List ℕ} → m ≤ max_width → n ≡ bytes_for m → new ≡ pack n (limb_coord l)
    → l ≡ pack_limbs carried_limbs (below m (limb_coord (replicate carried_limbs full))) → new ≡ ones (bytes_for m) m
unfolding ones
one_out m h room p q = limbs-out (λ i. 1) h room p (q ∙ limbs-below carried_limbs m _ (λ i. 1) (λ i k. ap (λ x. x % 2) (full-ones i (omega arith))))

-- turn, sum and solution of W bytes, in limbs
pub turn-out : {m n : ℕ} (k : ℕ) {a x l new : List ℕ} → IsWidth m → HasBytes m a → is_clear m a ≡ true → n ≡ bytes_for m → new ≡ pack n (limb_coord l) → x ≡ limbs_of a
    → l ≡ pack_limbs carried_limbs (rolled m k (limb_coord x)) → new ≡ turned m k a
turn-out {m} {n} k {a} {x} w h clear room p ex e =
    written_out h.greatest (turned-is h k) room
    (p ∙ ap (λ y. pack n (limb_coord y)) (e ∙ rolled-limbs h.greatest (omega (arith, w.least)) k (carried_by a) (length-pack carried_bytes (coord a)) (clear_at m (carried_by a) (clear-carried h ∙ clear)) x (slice-same a ex (short h) ∙ sym (same-coord h)))
    ∙ ap (pack n) (limbs-same (turned m k (carried_by a)) refl (turned-size ∙ length-pack carried_bytes (coord a)))) (turned-carried h k)
  where
    turned-size : length (turned m k (carried_by a)) ≡ length (carried_by a)
    turned-size = unfold turned in length_from (length (carried_by a)) m _

pub sum-out : {m n : ℕ} {a b l new : List ℕ} → HasBytes m a → HasBytes m b → is_clear m a ≡ true → is_clear m b ≡ true → n ≡ bytes_for m → new ≡ pack n (limb_coord l)
    → l ≡ pack_limbs carried_limbs (below (64 * reach m) (λ i. coord a i + coord b i)) → new ≡ added m a b
unfolding added
sum-out {m} {a = a} {b} ha hb ca cb room p e =
    limbs-out f ha.greatest room p
    (e ∙ limbs-ext carried_limbs (below (64 * reach m) f) (below m f) (λ i h. elim (dec_lt i m) [
      | yes q ↦ ap (λ z. z % 2) (below_in (64 * reach m) f i (omega (arith, reach-room m (omega (arith, ha.greatest)))) ∙ sym (below_in m f i q))
      | no q ↦ ap (λ z. z % 2) (kept i (omega arith) ∙ sym (below_out m f i (omega arith)))
    ]))
    ∙ ap (λ k. from_coords k m f) (sym ha.size)
  where
    f : ℕ → ℕ
    f i = coord a i + coord b i

    none : (i : ℕ) → m ≤ i → coord a i + coord b i ≡ 0
    none i h = ap₂ ◌+◌ (clear_at m a ca i h) (clear_at m b cb i h)

    kept : (i : ℕ) → m ≤ i → below (64 * reach m) f i ≡ 0
    kept i h = elim (dec_lt i (64 * reach m)) [ yes q ↦ below_in (64 * reach m) f i q ∙ none i h | no q ↦ below_out (64 * reach m) f i (omega arith) ]

pub root-out : {m n : ℕ} {c x l new : List ℕ} → HasBytes m c → n ≡ bytes_for m → new ≡ pack n (limb_coord l) → x ≡ limbs_of c
    → l ≡ pack_limbs carried_limbs (below m (λ i. limb_coord x 0 + sum (suc i) (limb_coord x))) → new ≡ root m c
unfolding root
root-out {m} {c = c} h room p ex e =
    limbs-out (λ i. coord c 0 + sum (suc i) (coord c)) h.greatest room p
    (e ∙ ap (λ f. pack_limbs carried_limbs (below m (λ i. f 0 + sum (suc i) f))) (slice-same c ex (short h)))
    ∙ root-from (bytes_for m) m c ∙ ap (λ k. from_coords k m (root_coord c)) (sym h.size)

pub sum-bytes : (m : ℕ) (x y : List ℕ) → length x ≡ carried_bytes → is_clear m x ≡ true → is_clear m y ≡ true → pack carried_bytes (λ i. coord x i + coord y i) ≡ added m x y
unfolding added
sum-bytes m x y size ex ey = ap (λ n. pack n (λ i. coord x i + coord y i)) (sym size) ∙ clear-pack (length x) m (λ i. coord x i + coord y i) (λ i h. rw (clear_at m x ex i h, clear_at m y ey i h))

-- the trace over more coordinates than an operand without high bits has
pub trace-bytes : (m n : ℕ) (x : List ℕ) → m ≤ n → is_clear m x ≡ true → sum n (coord x) % 2 ≡ trace m x
unfolding trace
trace-bytes m n x h e = ap (λ s. s % 2) (sum-clear m n (coord x) h (clear_at m x e))

pub root-bytes : (m : ℕ) (c : List ℕ) {r : List ℕ} → length c ≡ carried_bytes → r ≡ from_coords carried_bytes m (root_coord c) → r ≡ root m c
unfolding root
root-bytes m c size e = rw size e

-- the same as a cause, after the bits were judged
pub trace-after : (m n : ℕ) (x : List ℕ) → m ≤ n → judged (high_bit m x ∷ trace_is_one n x ∷ []) ≡ judged (high_bit m x ∷ trace_is_one m x ∷ [])
unfolding trace
trace-after m n x h = same_head (high_bit m x) (high_bit m x) _ _ refl refl (λ q.
    same_head (trace_is_one n x) (trace_is_one m x) [] [] (ap (λ t. eqb t 1) (trace-bytes m n x h (is-clear m x q))) refl (λ p. refl))
