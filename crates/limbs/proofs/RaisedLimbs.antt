-- Limbs moved up: where what comes to a place stood, and the bits of two limbs in a row.
use mathlib.Core.Path.{◌≡◌, sym, ap, ◌∙◌}
use mathlib.Core.List.{List, [], ◌∷◌}
use Prim.Native.Nat.{ℕ, ◌+◌, ◌-◌, ◌*◌, ◌/◌, ◌%◌, ◌^◌, ◌<◌, ◌≤◌}
use native.Mathlib.Nat.{zero-div}
use native.Mathlib.Decide.{dec_lt}
use native.Mathlib.Omega.{arith}
use lib.ListN.{get_or}
use borrow.Author.Tests.{le-leb, lt-leb}
use Rattle.gf2.specs.Coordinates.{value}
use Rattle.gf2.specs.Operands.{choose}
use Rattle.limbs.specs.Limbs.{limb_coord, raised}
use Rattle.limbs.proofs.LimbCoords.{limb-digit}
use Rattle.limbs.proofs.LimbLoops.{pair-low, pair-high}

pub raised-in : (n : ℕ) (f : ℕ → ℕ) (i : ℕ) → n ≤ i → raised n f i ≡ f (i - n)
raised-in n f i h = ap (λ t. choose t (f (i - n)) 0) (le-leb n i h)

pub raised-out : (n : ℕ) (f : ℕ → ℕ) (i : ℕ) → i < n → raised n f i ≡ 0
raised-out n f i h = ap (λ t. choose t (f (i - n)) 0) (lt-leb n i h)

-- only the distance from the count to the place matters
pub raised-same : (f : ℕ → ℕ) (n i k j : ℕ) → n + j ≡ k + i → raised n f i ≡ raised k f j
raised-same f n i k j e = elim (dec_lt i n) [
  | yes h ↦ raised-out n f i h ∙ sym (raised-out k f j (omega arith))
  | no h ↦ let d : i - n ≡ j - k = omega arith in raised-in n f i (omega arith) ∙ ap f d ∙ sym (raised-in k f j (omega arith))
]

-- the limbs of a list
abbrev pub limb_of : List ℕ → ℕ → ℕ
limb_of x w = get_or x w 0

-- two limbs in a row, from bit t of the first on
abbrev pub pair_from : ℕ → ℕ → ℕ → ℕ
pair_from t low high = value 64 (λ j. limb_coord (low ∷ high ∷ []) (t + j))

module _ (n k : ℕ) (x : List ℕ) where
  raised-digit : (m w j : ℕ) → j < 64 → raised m (limb_of x) w / 2 ^ j % 2 ≡ raised (m * 64) (limb_coord x) (w * 64 + j)
  raised-digit m w j l = elim (dec_lt w m) [
    | yes q ↦ ap (λ y. y / 2 ^ j % 2) (raised-out m (limb_of x) w q) ∙ ap (λ y. y % 2) (zero-div (2 ^ j)) ∙ sym (raised-out (m * 64) (limb_coord x) (w * 64 + j) (omega arith))
    | no q ↦
        let e : (w - m) * 64 + j ≡ w * 64 + j - m * 64 = omega arith in
        ap (λ y. y / 2 ^ j % 2) (raised-in m (limb_of x) w (omega arith)) ∙ sym (limb-digit x (w - m) j l) ∙ ap (limb_coord x) e
        ∙ sym (raised-in (m * 64) (limb_coord x) (w * 64 + j) (omega arith))
  ]

  -- bit j of two limbs in a row, those k / 64 + 1 and k / 64 below limb w
  pub raised-coord : (w j : ℕ) → j < 64 → limb_coord (raised (k / 64 + 1) (limb_of x) w ∷ raised (k / 64) (limb_of x) w ∷ []) (64 - k % 64 + j) ≡ raised k (limb_coord x) (w * 64 + j)
  raised-coord w j l = elim (dec_lt (64 - k % 64 + j) 64) [
    | yes q ↦
        pair-low _ _ (64 - k % 64 + j) q ∙ raised-digit (k / 64 + 1) w (64 - k % 64 + j) q
        ∙ raised-same (limb_coord x) ((k / 64 + 1) * 64) (w * 64 + (64 - k % 64 + j)) k (w * 64 + j) (omega arith)
    | no q ↦
        pair-high _ _ (64 - k % 64 + j) (omega arith) (omega arith) ∙ raised-digit (k / 64) w (64 - k % 64 + j - 64) (omega arith)
        ∙ raised-same (limb_coord x) (k / 64 * 64) (w * 64 + (64 - k % 64 + j - 64)) k (w * 64 + j) (omega arith)
  ]
