-- Tables made row by row: their rows, equal rows, one coordinate flipped, zeros.
use mathlib.Core.Path.{◌≡◌, refl, sym, ap, ap₂, ◌∙◌}
use mathlib.Core.Bool.{Bool, true, false}
use mathlib.Core.List.{List, [], ◌∷◌, ◌++◌, append-nil, append_assoc}
use Prim.Native.Nat.{ℕ, zero, suc, ◌+◌, ◌*◌, ◌/◌, ◌%◌, ◌^◌, ◌<◌}
use native.Mathlib.Nat.{add-zero, add-suc, zero-mul, zero-div, one-mul, mod-eq_of_lt, zero-add, suc-add, suc-mul, mul-le-mul_right, lt_irrefl, lt_of_lt_of_le}
use native.Mathlib.Decide.{ℕ_discrete}
use native.Mathlib.Omega.{arith}
use native.Mathlib.Numerals.{add-one}
use Rattle.std.proofs.lemmas.List.{replicate_more}
use lib.ListN.{length, get_or, set, take, drop, replicate, length-set, length-append, length-drop, get_or-append}
use lib.Seq.{take_all, drop_at, drop-append-le, take-append-le, get_or-append-add, set-append_left, get_or-set_same, get_or-set_other}
use lib.Bits.{bit_xor, xor_lt}
use lib.Dec.{eqb, ltb}
use borrow.Author.Tests.{eq-eqb, ne_eqb, eqb-true, ltb-true}
use Rattle.gf2.specs.Sums.{every}
use Rattle.gf2.specs.Coordinates.{coord, tabulate}
use Rattle.gf2.specs.Operands.{bytes_for, choose, below, from_coords, IsOperand}
use Rattle.gf2.specs.Tables.{IsTable, row}
use Rattle.gf2.proofs.Sums.{every-at}
use Rattle.gf2.proofs.Coordinates.{xor-bit, pack-of}
use Rattle.gf2.proofs.Operands.{coord-from, coord-from-out, length_from, from-operand, from-eq, from-ext}
use Rattle.gaussian.specs.Table.{rows_of}
use Rattle.gaussian.specs.Inner.{in_row}

pub length-rows : (m n : ℕ) (f : ℕ → ℕ → ℕ) → length (rows_of m n f) ≡ n * bytes_for m
unfolding rows_of
length-rows m zero f = omega arith
length-rows m (suc n) f =
    length-append (rows_of m n f) _ ∙ ap₂ ◌+◌ (length-rows m n f) (length_from (bytes_for m) m (f n)) ∙ sym (suc-mul n (bytes_for m))

pub rows_ext : (m n : ℕ) (f g : ℕ → ℕ → ℕ) → ((d s : ℕ) → d < n → s < m → f d s % 2 ≡ g d s % 2) → rows_of m n f ≡ rows_of m n g
unfolding rows_of
rows_ext m zero f g h = refl
rows_ext m (suc n) f g h =
    ap₂ ◌++◌ (rows_ext m n f g (λ d s l. h d s (omega arith))) (from-ext (bytes_for m) m (f n) (g n) (λ s l. h n s (omega arith) l))

-- 2^k in a byte, and its bits
power-byte : (k : ℕ) → k < 8 → 2 ^ k < 256
unfolding every
power-byte k h = ltb-true _ _ (every-at 8 (λ i. ltb (2 ^ i) 256) refl k h)

power-bit : (j k : ℕ) → j < 8 → k < 8 → 2 ^ k / 2 ^ j % 2 ≡ choose (eqb j k) 1 0
unfolding every
power-bit j k hj hk = eqb-true _ _ (every-at 8 (test j) (every-at 8 (λ i. every 8 (test i)) refl j hj) k hk)
  where
    test : ℕ → ℕ → Bool
    test j k = eqb (2 ^ k / 2 ^ j % 2) (choose (eqb j k) 1 0)

-- as the code shifts it
pub shifted : (k : ℕ) → k < 8 → 1 * 2 ^ k % 256 ≡ 2 ^ k
shifted k h = rw one-mul (mod-eq_of_lt (power-byte k h))

-- coordinate s of the bytes from `at` on is flipped
abbrev flipped : List ℕ → ℕ → ℕ → List ℕ
flipped l at s = set l (at + s / 8) (bit_xor (get_or l (at + s / 8) 0) (2 ^ (s % 8)))

coord-flipped : (a : List ℕ) (s i : ℕ) → s / 8 < length a → coord (flipped a 0 s) i ≡ (coord a i + choose (eqb i s) 1 0) % 2
unfolding coord
coord-flipped a s i h = rw (zero-add (s / 8)) (elim (ℕ_discrete (i / 8) (s / 8)) [
  | yes q ↦ rw (q, get_or-set_same a (s / 8) (bit_xor (get_or a (s / 8) 0) (2 ^ (s % 8))) 0 h, xor-bit, power-bit (i % 8) (s % 8) (omega arith) (omega arith), same q)
  | no q ↦ rw (get_or-set_other a (s / 8) (i / 8) (bit_xor (get_or a (s / 8) 0) (2 ^ (s % 8))) 0 q, ne_eqb i s (λ e. q (ap (λ k. k / 8) e))) (omega arith)
])
  where
    same : i / 8 ≡ s / 8 → eqb (i % 8) (s % 8) ≡ eqb i s
    same q = elim (ℕ_discrete i s) [
      | yes e ↦ rw e (eq-eqb (s % 8) (s % 8) refl ∙ sym (eq-eqb s s refl))
      | no e ↦ ne_eqb (i % 8) (s % 8) (λ r. e (omega arith)) ∙ sym (ne_eqb i s e)
    ]

set_append_right : (a b : List ℕ) (i x : ℕ) → set (a ++ b) (length a + i) x ≡ a ++ set b i x
set_append_right [] b i x = rw zero-add
set_append_right (y ∷ a) b i x = rw suc-add (ap (λ l. y ∷ l) (set_append_right a b i x))

flipped-front : (a b : List ℕ) (at s : ℕ) → at + s / 8 < length a → flipped (a ++ b) at s ≡ flipped a at s ++ b
flipped-front a b at s h = rw (get_or-append a b 0 (at + s / 8) h) (set-append_left a b (at + s / 8) _ h)

flipped-back : (a b : List ℕ) (s : ℕ) → flipped (a ++ b) (length a) s ≡ a ++ flipped b 0 s
flipped-back a b s = rw (get_or-append-add, zero-add (s / 8)) (set_append_right a b (s / 8) _)

-- a byte of row d
pub byte-in : (m n d s : ℕ) → d < n → s < m → d * bytes_for m + s / 8 < n * bytes_for m
byte-in m n d s h l = omega (arith, suc-mul d (bytes_for m), mul-le-mul_right {m = suc d} {n = n} (bytes_for m) h)

-- one coordinate of one row
module _ (m : ℕ) where
  flipped-row : (f : ℕ → ℕ) (s : ℕ) → s < m → flipped (from_coords (bytes_for m) m f) 0 s ≡ from_coords (bytes_for m) m (λ i. f i + choose (eqb i s) 1 0)
  flipped-row f s h = from-eq (bytes_for m) m _ is (λ i l. coord-flipped a s i inside ∙ ap (λ x. (x + choose (eqb i s) 1 0) % 2) (coord-from (bytes_for m) m f (omega arith) i l) ∙ omega arith)
    where
      a : List ℕ
      a = from_coords (bytes_for m) m f

      is-a : IsOperand (bytes_for m) m a
      is-a = from-operand (bytes_for m) m f

      inside : s / 8 < length a
      inside = rw (length_from (bytes_for m) m f) (omega arith)

      is : IsOperand (bytes_for m) m (flipped a 0 s)
      is = record {
        size = length-set a _ _ ∙ length_from (bytes_for m) m f;
        byte = λ b. rw (zero-add (s / 8)) (elim (ℕ_discrete b (s / 8)) [
          | yes q ↦ rw (q, get_or-set_same a (s / 8) (bit_xor (get_or a (s / 8) 0) (2 ^ (s % 8))) 0 inside) (xor_lt 8 (get_or a (s / 8) 0) (2 ^ (s % 8)) (is-a.byte (s / 8)) (power-byte (s % 8) (omega arith)))
          | no q ↦ rw (get_or-set_other a (s / 8) b (bit_xor (get_or a (s / 8) 0) (2 ^ (s % 8))) 0 q) (is-a.byte b)
        ]);
        clear = λ i l. coord-flipped a s i inside ∙ rw (coord-from-out (bytes_for m) m f i l, ne_eqb i s (λ e. lt_irrefl i (lt_of_lt_of_le (rw (sym e) at h) l)));
      }

  pub flip-rows : (n : ℕ) (f : ℕ → ℕ → ℕ) (d s : ℕ) → d < n → s < m → flipped (rows_of m n f) (d * bytes_for m) s ≡ rows_of m n (λ e i. f e i + in_row d (λ j. choose (eqb j s) 1 0) e i)
  unfolding rows_of
  flip-rows zero f d s h l = absurd (omega arith)
  flip-rows (suc n) f d s h l = elim (ℕ_discrete d n) [
    | yes q ↦
        ap (λ at. flipped (rows_of m n f ++ from_coords (bytes_for m) m (f n)) at s) (ap (λ k. k * bytes_for m) q ∙ sym (length-rows m n f))
        ∙ flipped-back (rows_of m n f) (from_coords (bytes_for m) m (f n)) s
        ∙ ap₂ ◌++◌
        (rows_ext m n f _ (λ e i le li. rw (ne_eqb e d (λ r. lt_irrefl e (rw (sym (r ∙ q)) at le))) (omega arith)))
        (flipped-row (f n) s l ∙ from-ext (bytes_for m) m _ _ (λ i li. rw (eq-eqb n d (sym q))))
    | no q ↦
        flipped-front (rows_of m n f) (from_coords (bytes_for m) m (f n)) (d * bytes_for m) s (rw (length-rows m n f) (byte-in m n d s (omega arith) l))
        ∙ ap₂ ◌++◌
        (flip-rows n f d s (omega arith) l)
        (from-ext (bytes_for m) m _ _ (λ i li. rw (ne_eqb n d (λ r. q (sym r))) (omega arith)))
  ]

tabulate-split : (n k : ℕ) (f : ℕ → ℕ) → tabulate (n + k) f ≡ tabulate n f ++ tabulate k (λ i. f (n + i))
unfolding tabulate
tabulate-split n zero f = rw add-zero (sym (append-nil (tabulate n f)))
tabulate-split n (suc k) f = rw (add-suc, tabulate-split n k f) (append_assoc (tabulate n f) _ _)

zero_row : (m : ℕ) → tabulate (bytes_for m) (λ b. 0) ≡ from_coords (bytes_for m) m (λ s. 0)
unfolding from_coords below
zero_row m = pack-of (bytes_for m) (λ b. 0) _ (λ b h. omega arith) (λ b j h l. rw zero-div (zeros (ltb (b * 8 + j) m)))
  where
    zeros : (b : Bool) → 0 % 2 ≡ choose b 0 0 % 2
    zeros true = refl
    zeros false = refl

-- a table of zeros
pub zeros-table : (n : ℕ) → replicate n 0 ≡ tabulate n (λ b. 0)
unfolding tabulate
zeros-table zero = refl
zeros-table (suc n) = ap (λ k. replicate k 0) (sym (add-one n)) ∙ sym (replicate_more n 0) ∙ ap (λ l. l ++ (0 ∷ [])) (zeros-table n)

pub zero-rows : (m n : ℕ) → tabulate (n * bytes_for m) (λ b. 0) ≡ rows_of m n (λ d s. 0)
unfolding rows_of
zero-rows m zero = unfold tabulate in rw zero-mul
zero-rows m (suc n) = rw suc-mul (tabulate-split (n * bytes_for m) (bytes_for m) (λ b. 0) ∙ ap₂ ◌++◌ (zero-rows m n) (zero_row m))

-- row d of a table made row by row
pub row_of : (m n : ℕ) (f : ℕ → ℕ → ℕ) (d : ℕ) → d < n → row m (rows_of m n f) d ≡ from_coords (bytes_for m) m (f d)
unfolding row rows_of
row_of m zero f d h = absurd (omega arith)
row_of m (suc n) f d h = elim (ℕ_discrete d n) [
  | yes q ↦
      ap (λ k. take (bytes_for m) (drop (k * bytes_for m) (rows_of m n f ++ from_coords (bytes_for m) m (f n)))) q
      ∙ ap (take (bytes_for m)) (drop_at (rows_of m n f) _ (n * bytes_for m) (length-rows m n f))
      ∙ take_all (bytes_for m) (from_coords (bytes_for m) m (f n)) (omega (arith, length_from (bytes_for m) m (f n)))
      ∙ ap (λ k. from_coords (bytes_for m) m (f k)) (sym q)
  | no q ↦
      let fits = rw suc-mul at (mul-le-mul_right {m = suc d} {n = n} (bytes_for m) (omega arith)) in
      ap (take (bytes_for m)) (drop-append-le (d * bytes_for m) (rows_of m n f) _ (omega (arith, length-rows m n f, fits)))
      ∙ take-append-le (bytes_for m) _ _ (omega (arith, length-drop (d * bytes_for m) (rows_of m n f), length-rows m n f, fits))
      ∙ row_of m n f d (omega arith)
]

pub rows-table : (m : ℕ) (f : ℕ → ℕ → ℕ) → IsTable m (rows_of m m f)
rows-table m f = record { size = length-rows m m f; rows = λ d h. rw (row_of m m f d h) (from-operand (bytes_for m) m (f d)) }
