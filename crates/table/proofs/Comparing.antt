-- Operands compared by their limbs and by their coordinates.
-- same-limbs: bytes compared as limbs. every-same: operands compared coordinate by coordinate.
-- agree-all, agree-more, agree-not, whole-limb: limbs compared with given coordinates, limb by limb. agrees-mirrors: rule 5 of one row so.
use mathlib.Core.Path.{◌≡◌, refl, sym, ap, ◌∙◌}
use mathlib.Core.Bool.{Bool, true, false, true≢false}
use mathlib.Core.List.{List}
use Prim.Native.Nat.{ℕ, ◌+◌, ◌-◌, ◌*◌, ◌/◌, ◌%◌, ◌^◌, ◌<◌, ◌≤◌}
use native.Mathlib.Nat.{zero-div, zero-mod, mod-eq_of_lt, mod-le, lt_of_le_of_lt}
use native.Mathlib.Decide.{dec_lt}
use native.Mathlib.Omega.{arith}
use lib.Dec.{eqb}
use lib.ListN.{length, get_or}
use lib.Seq.{ext_get_or}
use lib.Bits.{bit_xor, xor_add_and, xor_self, xor_lt, and_le_l, and_le_r}
use borrow.Author.Tests.{eqb-true, eq-eqb}
use Rattle.gf2.specs.Sums.{every}
use Rattle.gf2.specs.Coordinates.{coord}
use Rattle.gf2.specs.Operands.{bytes_for, carried_bytes, IsOperand, turned, same}
use Rattle.gf2.specs.Tables.{row}
use Rattle.gf2.proofs.Parity.{bool-ext}
use Rattle.gf2.proofs.Sums.{every-at, every_of}
use Rattle.gf2.proofs.Coordinates.{coord-lt, pack-eq, length-pack, value-eq, xor-bit, mod-bit, mod-bit-out}
use Rattle.gf2.proofs.Operands.{operand-ext, turned-operand}
use Rattle.gf2.proofs.Decisions.{same-decides}
use Rattle.gf2.proofs.Carrying.{has-bytes, carried-operand, same-coord, turned-carried, turned-is}
use Rattle.limbs.specs.Limbs.{carried_limbs, limb_coord, pack_limbs, limbs_of}
use Rattle.limbs.proofs.ByteLists.{Bytes}
use Rattle.limbs.proofs.LimbCoords.{length-limbs, limb-digit, limb-pack, limbs-lt, limbs-coord, limbs-same, slice-same}
use Rattle.limbs.proofs.LimbLoops.{ored, ored-at, ored-of}
use Rattle.turns.specs.Moves.{rolled}
use Rattle.turns.proofs.Turns.{rolled-limbs}
use Rattle.table.specs.Rows.{Shaped}
use Rattle.table.specs.Inner.{carried_row, ClearLimbs, mirrors}

-- where limbs w of two lists differ
abbrev pub apart : List ℕ → List ℕ → ℕ → ℕ
apart p q w = bit_xor (get_or p w 0) (get_or q w 0)

apart_none : (a b : ℕ) → bit_xor a b ≡ 0 → a ≡ b
apart_none a b e = omega (arith, xor_add_and a b, and_le_l a b, and_le_r a b)

-- bytes compared as limbs
pub same-limbs : (x y : List ℕ) → length x ≡ carried_bytes → length y ≡ carried_bytes → Bytes x → Bytes y
    → eqb (ored carried_limbs (apart (pack_limbs carried_limbs (coord x)) (pack_limbs carried_limbs (coord y)))) 0 ≡ same x y
same-limbs x y sx sy bx by = bool-ext _ _
    (λ e. (same-decides x y).1 (bytes (ext_get_or 0 (limbs x) (limbs y) (length-limbs carried_limbs (coord x) ∙ sym (length-limbs carried_limbs (coord y))) (λ w h.
    apart_none _ _ (ored-at carried_limbs _ (eqb-true _ 0 e) w (omega (arith, length-limbs carried_limbs (coord x))))))))
    (λ e. eq-eqb _ 0 (ored-of carried_limbs _ (λ w h. ap (λ l. apart (limbs x) (limbs l) w) (sym ((same-decides x y).0 e)) ∙ xor_self (get_or (limbs x) w 0))))
  where
    limbs : List ℕ → List ℕ
    limbs l = pack_limbs carried_limbs (coord l)

    bytes : limbs x ≡ limbs y → x ≡ y
    bytes e =
        pack-eq carried_bytes (coord y) x sx bx (λ i h. sym (limbs-coord x sx i) ∙ ap (λ l. limb_coord l i) e ∙ limbs-coord y sy i ∙ sym (mod-eq_of_lt (coord-lt y i)))
        ∙ sym (pack-eq carried_bytes (coord y) y sy by (λ i h. sym (mod-eq_of_lt (coord-lt y i))))

-- operands compared coordinate by coordinate
pub every-same : {n m : ℕ} {a b : List ℕ} → IsOperand n m a → IsOperand n m b → {f g : ℕ → ℕ} → ((i : ℕ) → i < m → f i ≡ coord b i) → ((i : ℕ) → i < m → g i ≡ coord a i)
    → every m (λ i. eqb (f i) (g i)) ≡ same a b
every-same {n} {m} {a} {b} oa ob {f} {g} ef eg = bool-ext _ _
    (λ e. (same-decides a b).1 (operand-ext oa ob (λ i l. sym (eg i l) ∙ sym (eqb-true _ _ (every-at m (λ i. eqb (f i) (g i)) e i l)) ∙ ef i l)))
    (λ e. every_of m _ (λ i l. eq-eqb _ _ (ef i l ∙ sym (ap (λ x. coord x i) ((same-decides a b).0 e)) ∙ sym (eg i l))))

-- the bits of one limb of bytes
pub limb-bit : (x : List ℕ) (w j : ℕ) → w < carried_limbs → j < 64 → {limb : ℕ} → limb ≡ get_or (limbs_of x) w 0 → limb / 2 ^ j % 2 ≡ coord x (w * 64 + j)
limb-bit x w j h l e =
    ap (λ y. y / 2 ^ j % 2) e ∙ sym (limb-digit (limbs_of x) w j l) ∙ limb-pack carried_limbs (coord x) (w * 64 + j) (omega arith) ∙ mod-eq_of_lt (coord-lt x _)

-- the lowest k bits of two limbs
pub low-of-same : {a b : ℕ} (k : ℕ) → a ≡ b → bit_xor a b % 2 ^ k ≡ 0
low-of-same {a} {b} k e = ap (λ y. y % 2 ^ k) (ap (λ y. bit_xor y b) e ∙ xor_self b) ∙ zero-mod (2 ^ k)

module _ (a b k : ℕ) where
  low_same : bit_xor a b % 2 ^ k ≡ 0 → (j : ℕ) → j < k → a / 2 ^ j % 2 ≡ b / 2 ^ j % 2
  low_same e j l = omega (arith, xor-bit a b j, mod-bit (bit_xor a b) k j l, ap (λ y. y / 2 ^ j % 2) e ∙ ap (λ y. y % 2) (zero-div (2 ^ j)))

  same_low : bit_xor a b % 2 ^ k < 2 ^ 64 → ((j : ℕ) → j < 64 → j < k → a / 2 ^ j % 2 ≡ b / 2 ^ j % 2) → bit_xor a b % 2 ^ k ≡ 0
  same_low small e = value-eq 64 (λ j. 0) _ small (λ j l. elim (dec_lt j k) [
    | yes q ↦ omega (arith, xor-bit a b j, mod-bit (bit_xor a b) k j q, e j l q)
    | no q ↦ mod-bit-out (bit_xor a b) k j (omega arith)
  ]) ∙ sym (value-eq 64 (λ j. 0) 0 (omega arith) (λ j l. ap (λ y. y % 2) (zero-div (2 ^ j))))

  module _ (ha : a < 2 ^ 64) (hb : b < 2 ^ 64) where
    pub low-lt : bit_xor a b % 2 ^ k < 2 ^ 64
    low-lt = lt_of_le_of_lt (mod-le (bit_xor a b) (2 ^ k)) (xor_lt 64 a b ha hb)

    -- limbs whose other bits agree too
    pub whole-limb : ((j : ℕ) → k ≤ j → j < 64 → a / 2 ^ j % 2 ≡ b / 2 ^ j % 2) → bit_xor a b % 2 ^ k ≡ 0 → a ≡ b
    whole-limb high e = value-eq 64 (λ j. b / 2 ^ j) a ha (λ j l. elim (dec_lt j k) [
      | yes q ↦ low_same e j q
      | no q ↦ high j (omega arith) l
    ]) ∙ sym (value-eq 64 (λ j. b / 2 ^ j) b hb (λ j l. refl))

-- limbs have the coordinates f below m, as far as the first w limbs go
pub record AgreeTo (m : ℕ) (x : List ℕ) (f : ℕ → ℕ) (w : ℕ) : Type 0 where
  pub at : (i : ℕ) → i < m → i < w * 64 → limb_coord x i ≡ f i

-- all of them, as a test
abbrev pub agree : ℕ → List ℕ → (ℕ → ℕ) → Bool
agree m x f = every m (λ i. eqb (limb_coord x i) (f i))

pub agree-start : (m : ℕ) (x : List ℕ) (f : ℕ → ℕ) → AgreeTo m x f 0
agree-start m x f = record { at = λ i l h. absurd (omega arith) }

module _ {m : ℕ} {x : List ℕ} {f : ℕ → ℕ} {w : ℕ} (done : AgreeTo m x f w) where
  pub agree-all : m ≤ 64 * w → true ≡ agree m x f
  agree-all h = sym (every_of m _ (λ i l. eq-eqb _ _ (done.at i l (omega arith))))

  -- a limb with these coordinates
  module _ (y : ℕ) (bits : (j : ℕ) → j < 64 → w * 64 + j < m → y / 2 ^ j % 2 ≡ f (w * 64 + j)) where
    pub agree-more : bit_xor (get_or x w 0) y % 2 ^ (m - w * 64) ≡ 0 → AgreeTo m x f (w + 1)
    agree-more e = record {
      at = λ i l h. elim (dec_lt i (w * 64)) [
        | yes q ↦ done.at i l q
        | no q ↦
            let place : w * 64 + (i - w * 64) ≡ i = omega arith in
            ap (limb_coord x) (sym place) ∙ limb-digit x w (i - w * 64) (omega arith) ∙ low_same _ y (m - w * 64) e (i - w * 64) (omega arith)
            ∙ bits (i - w * 64) (omega arith) (omega arith) ∙ ap f place
      ];
    }

    pub agree-not : bit_xor (get_or x w 0) y % 2 ^ (m - w * 64) < 2 ^ 64 → (bit_xor (get_or x w 0) y % 2 ^ (m - w * 64) ≡ 0 → ⊥) → false ≡ agree m x f
    agree-not small n = bool-ext false (agree m x f) (λ e. absurd (true≢false (sym e))) (λ e. absurd (n (same_low _ y (m - w * 64) small (λ j l q.
        sym (limb-digit x w j l) ∙ eqb-true _ _ (every-at m (λ i. eqb (limb_coord x i) (f i)) e (w * 64 + j) (omega arith)) ∙ sym (bits j l (omega arith))))))

-- the limbs of row m-d, turned d places
pub mirror-turned : {m : ℕ} {t : List ℕ} → Shaped m t → (d : ℕ) → 1 ≤ d → (l : List ℕ) {r : List ℕ} → l ≡ limbs_of (row m t (m - d)) → r ≡ pack_limbs carried_limbs (rolled m d (limb_coord l))
    → r ≡ limbs_of (turned m d (carried_row m t (m - d)))
mirror-turned {m} {t} s d least l e q =
    let o = s.is_table.rows (m - d) (omega (arith, s.least)) in
    let has = has-bytes s.greatest o in
    let x = carried-operand {n = bytes_for m} (omega (arith, s.greatest)) o in
    q ∙ rolled-limbs s.greatest (omega (arith, s.least)) d (carried_row m t (m - d)) x.size x.clear l (slice-same (row m t (m - d)) e (omega (arith, s.greatest, o.size)) ∙ sym (same-coord has))

-- rule 5 of one row
module _ {m : ℕ} {t : List ℕ} (s : Shaped m t) (d : ℕ) (l : 1 ≤ d) (h : d < m) {x : List ℕ} (e : x ≡ limbs_of (turned m d (carried_row m t (m - d)))) where
  other : IsOperand carried_bytes m (turned m d (carried_row m t (m - d)))
  other = turned-operand _ (length-pack carried_bytes _) d

  coords : limb_coord x ≡ coord (turned m d (carried_row m t (m - d)))
  coords = limbs-same _ e other.size

  pub mirror-clear : ClearLimbs m x
  mirror-clear = record { fits = λ w. rw e (limbs-lt carried_limbs _ w); bits = λ i q. ap (λ f. f i) coords ∙ other.clear i q }

  pub agrees-mirrors : every m (λ i. eqb (limb_coord x i) (coord (row m t d) i)) ≡ mirrors m t d
  unfolding mirrors
  agrees-mirrors =
      let has = has-bytes s.greatest (s.is_table.rows (m - d) (omega arith)) in
      every-same (s.is_table.rows d h) (turned-is has d) (λ i q. ap (λ f. f i) coords ∙ ap (λ y. coord y i) (turned-carried has d)
      ∙ ap (λ f. f i) (same-coord (has-bytes s.greatest (turned-is has d)))) (λ i q. refl)
