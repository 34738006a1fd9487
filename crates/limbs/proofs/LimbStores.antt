-- Limbs stored in a list of bytes.
-- Cleared: what is stored past the limbs.
-- Stored: the whole limbs, the last eight bytes where a limb ends past the list, and what is past the limbs.
use mathlib.Core.Path.{◌≡◌, sym, ap, ◌∙◌}
use mathlib.Core.List.{List, [], ◌∷◌, ◌++◌}
use Prim.Native.Nat.{ℕ, ◌+◌, ◌-◌, ◌*◌, ◌/◌, ◌%◌, ◌^◌, ◌<◌, ◌≤◌}
use native.Mathlib.Decide.{dec_lt}
use native.Mathlib.Nat.{zero-div}
use native.Mathlib.Omega.{arith}
use borrow.Author.Rules.{rules}
use borrow.Rule.Slice.PartMut.{put_mid, post_of}
use Rattle.std.proofs.lemmas.List.{get_or-take, places}
use lib.ListN.{length, get_or, take, replicate, length-append, length-replicate, get_or-replicate, get_or-append}
use lib.Pow.{shr-shr}
use lib.Seq.{get_or-append-add, ext_get_or}
use Rattle.gf2.specs.Coordinates.{value, tabulate, pack}
use Rattle.gf2.specs.Operands.{carried_bytes}
use Rattle.gf2.proofs.Coordinates.{value-ext, value-bits, value-bit, value-eq, length-tabulate, get_d_tabulate}
use Rattle.limbs.specs.Limbs.{carried_limbs, limb_coord, LimbPut, Cleared, Stored}
use Rattle.limbs.proofs.LimbCoords.{limb-digit, limb-past}
use Rattle.limbs.proofs.LimbLoops.{pair-coord}

-- 0 in all that stands from place `first` on
pub cleared-fill : (first : ℕ) (l zeros : List ℕ) (k : ℕ) → first ≤ length l → zeros ≡ replicate k 0 → k ≡ length l - first
    → Cleared first (length l) l (put_mid first (length l - first) l zeros)
cleared-fill first l zeros k h e size = record {
  size = rw (e, length-append, length-append, length-replicate {A = ℕ} k 0) (omega (arith, front, past));
  front = λ i q. get_or-append (take first l) _ 0 i (omega (arith, front)) ∙ get_or-take first l i 0 q;
  zeroes = λ i q r.
      let place : i ≡ length (take first l) + (i - first) = omega (arith, front) in
      let here : i - first < k = omega arith in
      rw (e) (ap (λ j. get_or (take first l ++ (replicate k 0 ++ post_of first (length l - first) l)) j 0) place ∙ get_or-append-add (take first l) _ (i - first) 0
      ∙ get_or-append (replicate k 0) _ 0 (i - first) (omega (arith, length-replicate {A = ℕ} k 0)) ∙ get_or-replicate {A = ℕ} k (i - first) 0 0 here);
}
  where
    front : length (take first l) ≡ first
    front = search (rules, places)

    past : length (post_of first (length l - first) l) ≡ 0
    past = search (rules, places)

-- a limb whose bits are the coordinates f from byte b on
put-coords : {limb b : ℕ} {l after : List ℕ} (f : ℕ → ℕ) → LimbPut 8 limb b l after → ((t : ℕ) → t < 64 → limb / 2 ^ t % 2 ≡ f (b * 8 + t) % 2)
    → (i : ℕ) → b ≤ i → i < b + 8 → i < length l → get_or after i 0 ≡ value 8 (λ j. f (i * 8 + j))
put-coords {limb} {b} {l} {after} f put bits i h k r =
    let e : i ≡ b + (i - b) = omega arith in
    ap (λ k. get_or after k 0) e ∙ put.bytes (i - b) (omega arith) (omega arith) ∙ sym (value-bits 8 (limb / 2 ^ (8 * (i - b))))
    ∙ value-ext 8 _ _ (λ j l. ap (λ y. y % 2) (shr-shr limb (8 * (i - b)) j) ∙ bits (8 * (i - b) + j) (omega arith) ∙ ap (λ k. f k % 2) (omega arith))

-- the bits of one limb of x
whole-bits : (x : List ℕ) (w t : ℕ) → t < 64 → get_or x w 0 / 2 ^ t % 2 ≡ limb_coord x (8 * w * 8 + t) % 2
whole-bits x w t h =
    let e : w * 64 + t ≡ 8 * w * 8 + t = omega arith in
    omega (arith, sym (limb-digit x w t h) ∙ ap (limb_coord x) e)

pub stored-none : (x : List ℕ) (n : ℕ) (l : List ℕ) → Stored x 0 n l
stored-none x n l = record { bytes = λ i h. absurd (omega arith) }

-- the same bytes, by other bounds
pub stored-by : {x : List ℕ} {m n : ℕ} {l : List ℕ} → Stored x m n l → (m' n' : ℕ) → ((i : ℕ) → i < m' → i < n' → (i < m) × (i < n)) → Stored x m' n' l
stored-by done m' n' h = record { bytes = λ i p q. done.bytes i (h i p q).0 (h i p q).1 }

-- a limb more, which has room
pub stored-limb : {x : List ℕ} (w : ℕ) {n : ℕ} {l after : List ℕ} → Stored x (w * 8) n l → LimbPut 8 (get_or x w 0) (8 * w) l after → 8 * w + 8 ≤ length l → Stored x ((w + 1) * 8) n after
stored-limb {x} w done put h = record {
  bytes = λ i p q. elim (dec_lt i (8 * w)) [
    | yes r ↦ put.front i r ∙ done.bytes i (omega arith) q
    | no r ↦ put-coords (limb_coord x) put (whole-bits x w) i (omega arith) (omega arith) (omega arith)
  ];
}

-- the last eight bytes
pub stored_last : {x : List ℕ} {m n : ℕ} {l after : List ℕ} {limb : ℕ} → Stored x m (n / 8 * 8) l → LimbPut 8 limb (n - 8) l after → n ≡ length l → 8 ≤ n
    → limb ≡ value 64 (λ j. limb_coord (get_or x (n / 8 - 1) 0 ∷ get_or x (n / 8) 0 ∷ []) (8 * (n % 8) + j)) → Stored x m n after
stored_last {x} {m} {n} {l} {after} {limb} done put size h e = record {
  bytes = λ i p q. elim (dec_lt i (n - 8)) [
    | yes r ↦ put.front i r ∙ done.bytes i p (omega arith)
    | no r ↦ put-coords (limb_coord x) put bits i (omega arith) (omega arith) (omega arith)
  ];
}
  where
    bits : (t : ℕ) → t < 64 → limb / 2 ^ t % 2 ≡ limb_coord x ((n - 8) * 8 + t) % 2
    bits t k =
        let place : (n / 8 - 1) * 64 + (8 * (n % 8) + t) ≡ (n - 8) * 8 + t = omega arith in
        let next : n / 8 ≡ n / 8 - 1 + 1 = omega arith in
        ap (λ y. y / 2 ^ t % 2) e ∙ value-bit 64 _ t k
        ∙ ap (λ k. limb_coord (get_or x (n / 8 - 1) 0 ∷ get_or x k 0 ∷ []) (8 * (n % 8) + t) % 2) next
        ∙ ap (λ y. y % 2) (pair-coord x (n / 8 - 1) (8 * (n % 8) + t) (omega arith) ∙ ap (limb_coord x) place)

-- all bytes
pub stored-pack : {x : List ℕ} {m n : ℕ} {l : List ℕ} → Stored x m n l → n ≤ m → length l ≡ n → l ≡ pack n (limb_coord x)
unfolding pack
stored-pack {x} {m} {n} {l} done h size = ext_get_or 0 l (tabulate n _) (size ∙ sym (length-tabulate n _)) (λ i k.
    done.bytes i (omega arith) (omega arith) ∙ sym (get_d_tabulate n (λ b. value 8 (λ j. limb_coord x (b * 8 + j))) i (omega arith)))

-- 0 past the limbs
pub cleared-pack : {x l after : List ℕ} {m n t : ℕ} → length x ≡ carried_limbs → Stored x carried_bytes m l → Cleared carried_bytes n l after → length l ≡ t → t ≤ m → t ≤ n → after ≡ pack t (limb_coord x)
cleared-pack {x} {l} {after} {m} {n} {t} size done clear e h k = stored-pack all (omega arith) (clear.size ∙ e)
  where
    all : Stored x t t after
    all = record {
      bytes = λ i p q. elim (dec_lt i carried_bytes) [
        | yes r ↦ clear.front i r ∙ done.bytes i r (omega arith)
        | no r ↦ clear.zeroes i (omega arith) (omega arith) ∙ value-eq 8 _ 0 (omega arith) (λ j k. rw (zero-div, limb-past x (i * 8 + j) (omega arith)))
      ];
    }

-- a list of less than eight bytes
pub part-pack : (x : List ℕ) {l after : List ℕ} → LimbPut 8 (get_or x 0 0) 0 l after → length l < 8 → after ≡ pack (length l) (limb_coord x)
part-pack x {l} {after} put h = stored-pack all (omega arith) put.size
  where
    all : Stored x 8 (length l) after
    all = record { bytes = λ i p q. put-coords (limb_coord x) put (whole-bits x 0) i (omega arith) (omega arith) q }
