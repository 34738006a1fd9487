-- Coordinates moved up: of sums, and limb by limb, by one place and by the width.
use mathlib.Core.Path.{◌≡◌, sym, ap, ap₂, ◌∙◌}
use mathlib.Core.List.{List}
use Prim.Native.Nat.{ℕ, ◌+◌, ◌-◌, ◌*◌, ◌/◌, ◌%◌, ◌^◌, ◌<◌}
use native.Mathlib.Nat.{mul-zero}
use native.Mathlib.Decide.{dec_lt}
use native.Mathlib.Omega.{arith}
use lib.ListN.{get_or}
use lib.Bits.{bit_xor}
use Rattle.gf2.specs.Sums.{sum}
use Rattle.gf2.specs.Coordinates.{tabulate}
use Rattle.gf2.proofs.Sums.{sum-ext, sum-none}
use Rattle.gf2.proofs.Coordinates.{tabulate-ext, value-xor}
use Rattle.limbs.specs.Limbs.{limb_coord, pack_limbs, raised}
use Rattle.limbs.proofs.LimbLoops.{Limbs, limb_for, limb-for, limb-value}
use Rattle.limbs.proofs.RaisedLimbs.{limb_of, pair_from, raised-in, raised-out, raised-coord}
use Rattle.scatter.specs.Cells.{twice_limbs, cell}

pub raised-twice : (j k : ℕ) (f : ℕ → ℕ) (i : ℕ) → raised j (raised k f) i ≡ raised (j + k) f i
raised-twice j k f i = elim (dec_lt i j) [
  | yes l ↦ raised-out j (raised k f) i l ∙ sym (raised-out (j + k) f i (omega arith))
  | no l ↦ raised-in j (raised k f) i (omega arith) ∙ elim (dec_lt (i - j) k) [
    | yes q ↦ raised-out k f (i - j) q ∙ sym (raised-out (j + k) f i (omega arith))
    | no q ↦ raised-in k f (i - j) (omega arith) ∙ ap f (omega arith) ∙ sym (raised-in (j + k) f i (omega arith))
  ]
]

pub raised-sum : (k n : ℕ) (f : ℕ → ℕ → ℕ) (i : ℕ) → raised k (λ j. sum n (λ q. f q j)) i ≡ sum n (λ q. raised k (f q) i)
raised-sum k n f i = elim (dec_lt i k) [
  | yes l ↦ raised-out k (λ j. sum n (λ q. f q j)) i l ∙ sym (sum-none n _ (λ q h. raised-out k (f q) i l))
  | no l ↦ raised-in k (λ j. sum n (λ q. f q j)) i (omega arith) ∙ sum-ext n _ _ (λ q h. sym (raised-in k (f q) i (omega arith)))
]

pub raised-times : (k c : ℕ) (f : ℕ → ℕ) (i : ℕ) → raised k (λ j. c * f j) i ≡ c * raised k f i
raised-times k c f i = elim (dec_lt i k) [
  | yes l ↦ raised-out k (λ j. c * f j) i l ∙ sym (ap (λ y. c * y) (raised-out k f i l) ∙ mul-zero c)
  | no l ↦ raised-in k (λ j. c * f j) i (omega arith) ∙ ap (λ y. c * y) (sym (raised-in k f i (omega arith)))
]

-- all coordinates moved up by k places: limb w is made from two limbs in a row, those k / 64 + 1 and k / 64 limbs below
abbrev pub raised_limb : List ℕ → ℕ → ℕ → ℕ
raised_limb x k w = pair_from (64 - k % 64) (raised (k / 64 + 1) (limb_of x) w) (raised (k / 64) (limb_of x) w)

raised-limb : (x : List ℕ) (k w : ℕ) → raised_limb x k w ≡ limb_for (raised k (limb_coord x)) w
raised-limb x k w = limb-for (raised k (limb_coord x)) w _ (λ j l. raised-coord 0 k x w j l)

-- by one place, the limb before being at hand
pub before-first : (x : List ℕ) → 0 ≡ raised 1 (limb_of x) 0
before-first x = sym (raised-out 1 (limb_of x) 0 (omega arith))

pub before-next : (x : List ℕ) (w : ℕ) → get_or x w 0 ≡ raised 1 (limb_of x) (w + 1)
before-next x w = sym (raised-in 1 (limb_of x) (w + 1) (omega arith) ∙ ap (limb_of x) (omega arith))

-- and a limb of slot r added
pub next-limb : (x g : List ℕ) (r w : ℕ) {previous limb : ℕ} → previous ≡ raised 1 (limb_of x) w → limb ≡ pair_from (64 - 1 % 64) previous (get_or x w 0)
    → get_or g (r * twice_limbs + w) 0 < 2 ^ 64 → bit_xor limb (get_or g (r * twice_limbs + w) 0) ≡ limb_for (λ i. raised 1 (limb_coord x) i + cell g r i) w
next-limb x g r w p q small = ap₂ bit_xor (q ∙ ap₂ (pair_from 63) p here ∙ raised-limb x 1 w)
    (limb-value g (r * twice_limbs + w) small ∙ limb-for (cell g r) w _ (λ j l. ap (limb_coord g) (omega arith))) ∙ value-xor 64 _ _
  where
    here : get_or x w 0 ≡ raised 0 (limb_of x) w
    here = sym (raised-in 0 (limb_of x) w (omega arith) ∙ ap (limb_of x) (omega arith))

-- an operand and the same again m places up
pub twice-limbs : (n m : ℕ) (x : List ℕ) → Limbs x → tabulate n (λ w. bit_xor (get_or x w 0) (raised_limb x m w)) ≡ pack_limbs n (λ i. limb_coord x i + raised m (limb_coord x) i)
unfolding pack_limbs
twice-limbs n m x small = tabulate-ext n _ _ (λ w h. ap₂ bit_xor (limb-value x w (small w)) (raised-limb x m w) ∙ value-xor 64 _ _)
