-- The product by a method: what its rows give, gathered, with what the method adds to them.
use Rattle.std.specs.Prelude.{Ok}
use mathlib.Core.Path.{◌≡◌, refl, sym, ap, ap₂, ◌∙◌}
use mathlib.Core.List.{List}
use Prim.Native.Nat.{ℕ, ◌+◌, ◌*◌, ◌%◌, ◌<◌, ◌≤◌}
use native.Mathlib.Nat.{add-zero}
use native.Mathlib.Omega.{arith}
use lib.ListN.{replicate}
use Rattle.gf2.specs.Coordinates.{coord}
use Rattle.gf2.specs.Operands.{carried_bytes, minus}
use Rattle.gf2.proofs.Operands.{minus-lt, from-ext, coord-from}
use Rattle.operand.specs.declared.Operand.{Operand}
use Rattle.operand.specs.Calls.{square_call, sum_call}
use Rattle.limbs.specs.Limbs.{carried_limbs, limb_coord, pack_limbs}
use Rattle.limbs.proofs.LimbCoords.{limb-pack}
use Rattle.table.specs.Rows.{Shaped}
use Rattle.scatter.specs.Cells.{Added}
use Rattle.scatter.specs.declared.methods.Method.{Method}
use Rattle.scatter.specs.declared.methods.Method.TheVariants.{Plain, Reduced}
use Rattle.product.specs.Calls.{multiplied}
use Rattle.product.specs.Inner.{Sound, Serves, operand_of, made, rows_to, gathered_at, diagonal_at}
use Rattle.scatter.specs.Methods.{first_row, row_count}
use Rattle.product.proofs.SoundOperands.{fits, is_made, sum-made, square-made}
use Rattle.product.proofs.KernelLaws.{limbs-coord, rows_made}
use Rattle.product.proofs.RowProducts.{diagonal_bytes, rows_at, by_rows}

pub serves-shaped : (how : Method) (m : ℕ) (t : List ℕ) → Serves how m t → Shaped m t
serves-shaped Plain m t s = s
serves-shaped Reduced m t s = s.0

-- the rows of a method are rows of the table
pub rows_inside : (how : Method) (m : ℕ) → 2 ≤ m → first_row how + row_count how m ≤ m
rows_inside Plain m two = omega arith
rows_inside Reduced m two = omega arith

-- those rows, by name, on empty slots
pub rows-by : (how : Method) (m : ℕ) (t x y : List ℕ) (n : ℕ) {from count : ℕ} {g₀ g : List ℕ} → from ≡ first_row how → count ≡ row_count how m → g₀ ≡ replicate n 0
    → Added (rows_to how m t x y from count) g₀ g → Added (rows_to how m t x y (first_row how) (row_count how m)) (replicate n 0) g
rows-by how m t x y n p q r h = rw (p, q, r) at h

-- what the rows give, with nothing and with the diagonal
module _ {m : ℕ} {rows : Operand} (s : Sound m rows) (x y : List ℕ) where
  pub plus_none : rows ≡ made m (λ i. coord rows.bytes i + diagonal_at Plain m x y i)
  plus_none = is_made s ∙ ap (operand_of m) (from-ext carried_bytes m _ _ (λ i l. ap (λ z. z % 2) (sym (add-zero _))))

  -- the square of the coordinates' products, and its sum with what the rows give
  pub diagonal-made : (e : List ℕ) {products : Operand} → products ≡ made m (limb_coord e) → square_call products ≡ Ok (made m (λ i. limb_coord e (minus m i 1)))
  diagonal-made e q = square-made s.least s.greatest (limb_coord e) q

  pub plus-products : {e : List ℕ} {diagonal : Operand} → e ≡ pack_limbs carried_limbs (λ i. limb_coord x i * limb_coord y i)
      → diagonal ≡ made m (λ i. limb_coord e (minus m i 1)) → sum_call rows diagonal ≡ Ok (made m (λ i. coord rows.bytes i + diagonal_at Reduced m x y i))
  plus-products {e} p q =
      sum-made s.least s.greatest (coord rows.bytes) (λ i. limb_coord e (minus m i 1)) (is_made s) q
      ∙ ap (λ b. Ok (operand_of m b)) (from-ext carried_bytes m _ _ (λ i l. ap (λ z. (coord rows.bytes i + z) % 2) (at (minus m i 1) (minus-lt m i 1 (omega (arith, s.least)))) ∙ inner _ _))
    where
      at : (j : ℕ) → j < m → limb_coord e j ≡ limb_coord x j * limb_coord y j % 2
      at j l = let big = s.greatest in ap (λ z. limb_coord z j) p ∙ limb-pack carried_limbs _ j (omega arith)

      inner : (c d : ℕ) → (c + d % 2) % 2 ≡ (c + d) % 2
      inner c d = omega arith

module _ {m : ℕ} (t : List ℕ) {a b : Operand} {x y : List ℕ} (sa : Sound m a) (sb : Sound m b)
    (ex : x ≡ pack_limbs carried_limbs (coord a.bytes)) (ey : y ≡ pack_limbs carried_limbs (coord b.bytes)) (n : ℕ) where
  diagonal-same : (how : Method) (i : ℕ) → diagonal_at how m x y i ≡ diagonal_bytes how m a.bytes b.bytes i
  diagonal-same Plain i = refl
  diagonal-same Reduced i = ap₂ ◌*◌ (limbs-coord sa ex _) (limbs-coord sb ey _)

  pub times-made : (how : Method) {g : List ℕ} {rows r : Operand} → Serves how m t → Added (rows_to how m t x y (first_row how) (row_count how m)) (replicate n 0) g
      → rows ≡ made m (gathered_at m g) → r ≡ made m (λ i. coord rows.bytes i + diagonal_at how m x y i) → r ≡ operand_of m (multiplied how m t a.bytes b.bytes)
  times-made how {g} serves p q e = e ∙ ap (operand_of m)
      (from-ext carried_bytes m _ (rows_at how m t a.bytes b.bytes) (λ i l.
      parts _ _ (ap (λ z. coord z.bytes i) q ∙ coord-from carried_bytes m (gathered_at m g) (fits m sa.greatest) i l) (rows_made sa sb ex ey how (first_row how) (row_count how m) n (serves-shaped how m t serves) (rows_inside how m sa.least) p i l) (diagonal-same how i))
      ∙ by_rows how m t a.bytes b.bytes serves sa.operand.size)
    where
      parts : {c d w : ℕ} (u v : ℕ) → c ≡ u % 2 → u % 2 ≡ v % 2 → d ≡ w → (c + d) % 2 ≡ (w + v) % 2
      parts u v p q r = omega arith
