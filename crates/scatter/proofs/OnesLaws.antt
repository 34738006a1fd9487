-- The ones of a limb, taken off from the lowest on, and of a row limb by limb; what they add at their slots, by coordinates and as an equation.
use mathlib.Core.Path.{◌≡◌, refl, sym, ap, ap₂, ◌∙◌}
use mathlib.Core.List.{List}
use Prim.Native.Nat.{ℕ, ◌+◌, ◌-◌, ◌*◌, ◌/◌, ◌%◌, ◌^◌, ◌<◌}
use native.Mathlib.Nat.{add-zero, add-mul, mod-eq_of_lt, zero-div}
use native.Mathlib.Numerals.{add-one}
use native.Mathlib.Omega.{arith}
use lib.ListN.{length, get_or}
use lib.Dec.{eqb}
use lib.Bits.{bit_and}
use lib.Count.{count_trailing_zeros}
use Rattle.gf2.specs.Coordinates.{coord}
use Rattle.gf2.specs.Operands.{choose}
use Rattle.gf2.proofs.Coordinates.{coord-lt}
use Rattle.gf2.proofs.Sums.{sum-zero, sum-next}
use Rattle.gf2.proofs.TrailingZeros.{lowest-off}
use Rattle.limbs.specs.Limbs.{carried_limbs, reach, limb_coord, limbs_of}
use Rattle.limbs.proofs.LimbCoords.{limb-lt, limb-digit, limb-pack, length-limbs, limbs-eq}
use Rattle.limbs.proofs.LimbLoops.{Limbs}
use Rattle.scatter.specs.Cells.{slots, twice_limbs, HasSlots, cell, Added, kept_from, limbs_add, row_adds, plus_row}
use Rattle.scatter.proofs.CellLaws.{added_none, added_more, added-same, slots-there, slots-missing}

-- the bits of two limbs, each of which adds f at its slot
abbrev pub both_add : ℕ → ℕ → (ℕ → ℕ) → ℕ → ℕ → ℕ
both_add limb rest f r i = (limb / 2 ^ r % 2 + rest / 2 ^ r % 2) * f i

module _ (limb : ℕ) (f : ℕ → ℕ) where
  pub ones_none : (g : List ℕ) → Added (both_add limb limb f) g g
  ones_none g = added-same (λ r i. 0) _ (added_none (λ r i. 0) g (λ r i. refl)) (λ r i h l. even _ _)
    where
      even : (b e : ℕ) → 0 % 2 ≡ (b + b) * e % 2
      even b e = omega (arith, add-mul b b e)

  -- the ones that are taken off already: those of the limb and those left, modulo 2; a step takes off the lowest
  pub ones-more : (rest : ℕ) → rest < 2 ^ 64 → (rest ≡ 0 → ⊥) → {a b c : List ℕ} → Added (both_add limb rest f) a b
      → Added (λ r i. choose (eqb r (count_trailing_zeros 64 rest)) 1 0 * f i) b c → Added (both_add limb (bit_and rest (rest - 1)) f) a c
  ones-more rest small some p q = added_more _ _ _ p q (λ r i h l.
      ap (λ y. ((limb / 2 ^ r % 2 + y) * f i + choose (eqb r (count_trailing_zeros 64 rest)) 1 0 * f i) % 2) (sym (lowest-off 64 rest small some r)) ∙ twice _ _ _ _)
    where
      twice : (w r z e : ℕ) → ((w + (r + z)) * e + z * e) % 2 ≡ (w + r) * e % 2
      twice w r z e = omega (arith, add-mul w (r + z) e, add-mul r z e, add-mul w r e)

  pub ones-all : {rest : ℕ} {a b : List ℕ} → rest ≡ 0 → Added (both_add limb rest f) a b → Added (λ r i. limb / 2 ^ r % 2 * f i) a b
  ones-all {rest} z p = added-same _ _ p (λ r i h l. ap (λ y. (limb / 2 ^ r % 2 + y) * f i % 2) (ap (λ k. k / 2 ^ r % 2) z ∙ ap (λ k. k % 2) (zero-div (2 ^ r))) ∙ ap (λ y. y * f i % 2) (add-zero _))

-- limb after limb of a row
module _ (m : ℕ) (e row : List ℕ) where
  pub row-none : (g : List ℕ) → Added (limbs_add m e row 0) g g
  row-none g = added_none _ g (λ r i. sum-zero _)

  limb-bit : (q r : ℕ) → q < carried_limbs → r < slots → get_or (limbs_of row) q 0 / 2 ^ r % 2 ≡ coord row (q * 64 + r)
  limb-bit q r h l = sym (limb-digit (limbs_of row) q r l) ∙ limb-pack carried_limbs (coord row) (q * 64 + r) (omega arith) ∙ mod-eq_of_lt (coord-lt row _)

  pub row_more : (q : ℕ) → q < carried_limbs → {limb : ℕ} {a b c : List ℕ} → limb ≡ get_or (limbs_of row) q 0 → Added (limbs_add m e row q) a b
      → Added (λ r i. limb / 2 ^ r % 2 * kept_from m q e i) b c → Added (limbs_add m e row (q + 1)) a c
  row_more q h z p s = added_more _ _ _ p s (λ r i b l. ap (λ y. y % 2)
      (ap (λ y. limbs_add m e row q r i + y * kept_from m q e i) (ap (λ y. y / 2 ^ r % 2) z ∙ limb-bit q r h b)
      ∙ sym (ap (λ n. limbs_add m e row n r i) (add-one q) ∙ sum-next _ q)))

  pub row-all : {p q : ℕ} {a b : List ℕ} → p ≡ q → Added (limbs_add m e row p) a b → Added (limbs_add m e row q) a b
  row-all z p = rw (← z) p

  -- a row's sum, by an equation and back
  pub row-equal : {q : ℕ} {a b : List ℕ} → q ≡ reach m → Limbs b → HasSlots a → Added (limbs_add m e row q) a b → b ≡ plus_row m a e row
  unfolding plus_row
  row-equal {q} {a} {b} z small there p = limbs-eq (length a) _ p.size small (λ c l.
      let place : c ≡ c / (64 * twice_limbs) * (64 * twice_limbs) + c % (64 * twice_limbs) = omega arith in
      ap (limb_coord b) place ∙ p.coords (c / (64 * twice_limbs)) (c % (64 * twice_limbs)) (omega arith) (omega arith)
      ∙ ap₂ (λ k y. (limb_coord a k + y) % 2) (sym place) (ap₂ (λ t n. choose t (limbs_add m e row n (c / (64 * twice_limbs)) (c % (64 * twice_limbs))) 0) (sym (slots-there a there)) z))

  pub row-missing : (a : List ℕ) → Limbs a → (HasSlots a → ⊥) → a ≡ plus_row m a e row
  unfolding plus_row
  row-missing a small h = limbs-eq (length a) _ refl small (λ c l.
      sym (ap (λ t. (limb_coord a c + choose t (limbs_add m e row (reach m) (c / (64 * twice_limbs)) (c % (64 * twice_limbs))) 0) % 2) (slots-missing a h) ∙ omega (arith, limb-lt a c)))

  pub row-added : {a b : List ℕ} → HasSlots a → b ≡ plus_row m a e row → Added (limbs_add m e row (reach m)) a b
  unfolding plus_row
  row-added {a} {b} there z = record {
    size = ap length z ∙ length-limbs (length a) _;
    coords = λ r i h l.
        let d : (r * (64 * twice_limbs) + i) / (64 * twice_limbs) ≡ r = omega arith in
        let k : (r * (64 * twice_limbs) + i) % (64 * twice_limbs) ≡ i = omega arith in
        ap (λ y. limb_coord y (r * (64 * twice_limbs) + i)) z ∙ limb-pack (length a) _ (r * (64 * twice_limbs) + i) (omega (arith, there))
        ∙ ap₂ (λ t j. (cell a r i + row_adds m a e row t j) % 2) d k ∙ ap (λ t. (cell a r i + choose t (limbs_add m e row (reach m) r i) 0) % 2) (slots-there a there);
  }
