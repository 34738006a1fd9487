-- Sums of rows: which products they are.
-- left-sum, right-sum: under rules 4 and 5 the two sides of rule 6; first-left, first-right: those for i = 0.
-- first-test: rule 6 for i = 0, coordinate by coordinate.
use mathlib.Core.Path.{◌≡◌, sym, ap, ap₂, ◌∙◌}
use mathlib.Core.Bool.{◌&&◌}
use mathlib.Core.List.{List}
use Prim.Native.Nat.{ℕ, zero, suc, ◌+◌, ◌-◌, ◌*◌, ◌%◌, ◌<◌, ◌≤◌}
use native.Mathlib.Nat.{mod-eq_of_lt}
use native.Mathlib.Omega.{arith}
use lib.Dec.{eqb}
use Rattle.gf2.specs.Sums.{sum, every}
use Rattle.gf2.specs.Coordinates.{coord}
use Rattle.gf2.specs.Operands.{bytes_for, carried_bytes, minus, IsOperand, turned, carried_by, same}
use Rattle.gf2.specs.Tables.{row}
use Rattle.gf2.specs.Check.{Symmetric}
use Rattle.gf2.proofs.Coordinates.{length-pack}
use Rattle.gf2.proofs.Operands.{minus-lt, coord-from, from-operand, turned-operand, coord-turned}
use Rattle.gf2.proofs.Parity.{bits, odd-mul}
use Rattle.gf2.proofs.Index.{Ix, at, o, ◌⊖◌, at-minus, at-neg, z-add, sub-add}
use Rattle.gf2.proofs.IndexSums.{Σ-ext, odd-Σ}
use Rattle.gf2.proofs.Vector.{Vec, turn, β, lin, turn-turn, turn-z, turn-β}
use Rattle.gf2.proofs.VectorProduct.{◌·◌ as mul, pair, turn-mul, mul-ββ, mul-o, pair-o, mul_comm, Symmetric as Symmetricᵛ}
use Rattle.gf2.proofs.OperandVectors.{bytes_fit, vec, bytes, vec-bytes, from_vec, basis-vec, turned-bytes}
use Rattle.gf2.proofs.TableVectors.{rows, row-vec, product-bytes, symmetric}
use Rattle.gf2.proofs.Carrying.{carried_from, same-carried, same-coord, has-bytes}
use Rattle.limbs.specs.Limbs.{limb_coord}
use Rattle.table.specs.Rows.{Shaped}
use Rattle.table.specs.Inner.{carried_row, rows_at, Below, left_product, right_product, associates}
use Rattle.table.proofs.BasisOperands.{left-operand, right_operand}
use Rattle.table.proofs.Comparing.{every-same}

pub minus-at : (m k j : ℕ) → j < m → (k + (m - j)) % m ≡ minus m k j
unfolding minus
minus-at m k j h = rw (mod-eq_of_lt h)

pub at-operand : (m : ℕ) (t x : List ℕ) → IsOperand carried_bytes m (rows_at m t x)
unfolding rows_at
at-operand m t x = from-operand carried_bytes m _

-- which products they are
module _ (p : ℕ) (t : List ℕ) (s : Shaped (suc p) t) where
  infixl 70 ◌·◌
  abbrev T : Ix p → Vec p
  T = rows p t

  abbrev ◌·◌ : Vec p → Vec p → Vec p
  a · b = mul T a b

  -- an operand, carried
  abbrev x : Vec p → List ℕ
  x v = bytes p carried_bytes v

  room : suc p ≤ 8 * carried_bytes
  room = let g = s.greatest in omega arith

  carried-vec : (v : Vec p) → carried_by (bytes p (bytes_for (suc p)) v) ≡ x v
  unfolding bytes
  carried-vec v = let g = s.greatest in carried_from (omega arith) (bytes_fit (suc p)) _

  row-bytes : (d : ℕ) → d < suc p → carried_row (suc p) t d ≡ x (T (at d))
  row-bytes d l = ap carried_by (row-vec p t s.is_table d l) ∙ carried-vec _

  turned-row : (k d : ℕ) → d < suc p → turned (suc p) k (carried_row (suc p) t d) ≡ x (turn (at k) (T (at d)))
  turned-row k d l = ap (turned (suc p) k) (row-bytes d l) ∙ turned-bytes p carried_bytes room k (T (at d))

  at_ones : (v : Vec p) → rows_at (suc p) t (x v) ≡ x (β o · v)
  unfolding rows_at rows vec lin
  at_ones v = from_vec p carried_bytes _ _ (λ r. odd-Σ p _ ∙ Σ-ext bits (λ k. odd-mul _ _ ∙ ap (λ (u : Vec p). u k && T k r) (vec-bytes p carried_bytes v room)))
      ∙ ap x (sym (mul-o T v))

  basis-products : (i j : ℕ) → i < suc p → j < suc p →
      (carried_by (left_product (suc p) t i j) ≡ x ((β o · β (at i)) · β (at j))) × (carried_by (right_product (suc p) t i j) ≡ x (β o · (β (at i) · β (at j))))
  unfolding left_product right_product
  basis-products i j li lj =
      let h = bytes_fit (suc p) in
      let l : 0 < suc p = omega arith in
      let is = s.is_table in
      (ap carried_by (simp (basis-vec, product-bytes)) ∙ carried-vec _, ap carried_by (simp (basis-vec, product-bytes)) ∙ carried-vec _)

  left-vec : Symmetricᵛ T → (i j : Ix p) → turn j (β o · turn (o ⊖ j) (T i)) ≡ (β o · β i) · β j
  left-vec y i j = turn-mul T j (β o) _ ∙ rw (turn-β, z-add, turn-turn, sub-add, turn-z, mul_comm T y, mul-ββ, pair-o)

  left-rows : Symmetric (suc p) t → (i j : ℕ) → i < suc p → j < suc p →
      turned (suc p) j (rows_at (suc p) t (turned (suc p) (suc p - j) (carried_row (suc p) t i))) ≡ carried_by (left_product (suc p) t i j)
  left-rows y i j li lj =
      ap (λ u. turned (suc p) j (rows_at (suc p) t u)) (turned-row _ i li) ∙ ap (turned (suc p) j) (at_ones _) ∙ turned-bytes p carried_bytes room j _
      ∙ ap x (ap (λ k. turn (at j) (β o · turn k (T (at i)))) (at-neg j (omega arith)) ∙ left-vec ((symmetric p t s.is_table s.least).0 y) (at i) (at j))
      ∙ sym (basis-products i j li lj).0

  right-rows : (i j : ℕ) → i < suc p → j < suc p → rows_at (suc p) t (turned (suc p) i (carried_row (suc p) t (minus (suc p) j i))) ≡ carried_by (right_product (suc p) t i j)
  unfolding pair
  right-rows i j li lj =
      ap (rows_at (suc p) t) (turned-row i _ (minus-lt (suc p) j i (omega arith))) ∙ at_ones _
      ∙ ap x (ap (λ k. β o · turn (at i) (T k)) (at-minus j i) ∙ ap (λ v. β o · v) (sym (mul-ββ T (at i) (at j)))) ∙ sym (basis-products i j li lj).1

  first_rows : (j : ℕ) → j < suc p → rows_at (suc p) t (carried_row (suc p) t j) ≡ carried_by (right_product (suc p) t 0 j)
  first_rows j l =
      ap (rows_at (suc p) t) (row-bytes j l) ∙ at_ones _
      ∙ ap x (ap (λ v. β o · v) (sym (mul-ββ T o (at j) ∙ pair-o T (at j)))) ∙ sym (basis-products 0 j (omega arith) l).1

  first-row : Symmetric (suc p) t → (j : ℕ) → j < suc p → turned (suc p) 1 (carried_row (suc p) t (minus (suc p) j 1)) ≡ carried_by (left_product (suc p) t 0 j)
  unfolding pair
  first-row y j l =
      let v = (symmetric p t s.is_table s.least).0 y in
      turned-row 1 _ (minus-lt (suc p) j 1 (omega arith))
      ∙ ap x (ap (λ k. turn (at 1) (T k)) (at-minus j 1) ∙ sym (mul-ββ T (at 1) (at j)) ∙ ap (λ u. u · β (at j)) (sym v.rule4 ∙ sym (mul-ββ T o o ∙ pair-o T o)))
      ∙ sym (basis-products 0 j (omega arith) l).0

pub left-sum : {m : ℕ} {t : List ℕ} → Shaped m t → Symmetric m t → (i j : ℕ) → i < m → j < m →
    turned m j (rows_at m t (turned m (m - j) (carried_row m t i))) ≡ carried_by (left_product m t i j)
left-sum {m = zero} {t} s y i j li lj = absurd (omega arith)
left-sum {m = suc p} {t} s y i j li lj = left-rows p t s y i j li lj

pub right-sum : {m : ℕ} {t : List ℕ} → Shaped m t → (i j : ℕ) → i < m → j < m →
    rows_at m t (turned m i (carried_row m t (minus m j i))) ≡ carried_by (right_product m t i j)
right-sum {m = zero} {t} s i j li lj = absurd (omega arith)
right-sum {m = suc p} {t} s i j li lj = right-rows p t s i j li lj

pub first-left : {m : ℕ} {t : List ℕ} → Shaped m t → Symmetric m t → (j : ℕ) → j < m → turned m 1 (carried_row m t (minus m j 1)) ≡ carried_by (left_product m t 0 j)
first-left {m = zero} {t} s y j l = absurd (omega arith)
first-left {m = suc p} {t} s y j l = first-row p t s y j l

pub first-right : {m : ℕ} {t : List ℕ} → Shaped m t → (j : ℕ) → j < m → rows_at m t (carried_row m t j) ≡ carried_by (right_product m t 0 j)
first-right {m = zero} {t} s j l = absurd (omega arith)
first-right {m = suc p} {t} s j l = first_rows p t s j l

-- rule 6 for i = 0, coordinate by coordinate
pub first-test : {m : ℕ} {t : List ℕ} → Shaped m t → Symmetric m t → (j : ℕ) → j < m → (x : List ℕ) → Below m (λ r. sum m (λ k. coord (row m t j) k * coord (row m t k) r)) x
    → every m (λ i. eqb (limb_coord x i) (coord (row m t (minus m j 1)) (minus m i 1))) ≡ associates m t 0 j
unfolding associates rows_at
first-test {m} {t} s y j l x e =
    every-same (turned-operand _ (length-pack carried_bytes _) 1) (at-operand m t (carried_row m t j)) right left
    ∙ ap₂ same (first-left s y j l) (first-right s j l) ∙ same-carried (omega (arith, s.greatest)) (left-operand m t 0 j) (right_operand m t 0 j)
  where
    fits : m ≤ 8 * carried_bytes
    fits = let g = s.greatest in omega arith

    own : (d : ℕ) → d < m → coord (carried_row m t d) ≡ coord (row m t d)
    own d h = same-coord (has-bytes s.greatest (s.is_table.rows d h))

    right : (i : ℕ) → i < m → limb_coord x i ≡ coord (rows_at m t (carried_row m t j)) i
    right i h = e i h ∙ sym (coord-from carried_bytes m _ fits i h ∙ ap (λ f. sum m (λ k. f k * coord (row m t k) i) % 2) (own j l))

    left : (i : ℕ) → i < m → coord (row m t (minus m j 1)) (minus m i 1) ≡ coord (turned m 1 (carried_row m t (minus m j 1))) i
    left i h = sym (coord-turned _ (length-pack carried_bytes _) fits 1 i h ∙ ap (λ f. f (minus m i 1)) (own (minus m j 1) (minus-lt m j 1 (omega arith))))
