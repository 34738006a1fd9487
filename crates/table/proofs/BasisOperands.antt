-- The basis operands and products of them as operands of W bytes; a basis operand carried.
use mathlib.Core.Path.{◌≡◌, sym, ap, ◌∙◌}
use mathlib.Core.List.{List}
use Prim.Native.Nat.{ℕ, zero, suc, ◌+◌, ◌*◌, ◌/◌, ◌%◌, ◌^◌, ◌<◌, ◌≤◌}
use native.Mathlib.Nat.{mod-lt, mod-mod, zero-div}
use native.Mathlib.Decide.{dec_lt}
use native.Mathlib.Omega.{arith}
use lib.ListN.{set, replicate}
use lib.Dec.{eqb}
use borrow.Author.Tests.{ne_eqb}
use Rattle.gf2.specs.Coordinates.{tabulate}
use Rattle.gf2.specs.Operands.{bytes_for, carried_bytes, choose, IsOperand, below, from_coords, carried_by}
use Rattle.gf2.specs.Tables.{basis}
use Rattle.gf2.specs.Products.{product}
use Rattle.gf2.proofs.Coordinates.{pack-of, one_bit}
use Rattle.gf2.proofs.Operands.{below_in, below_out, from-operand}
use Rattle.gf2.proofs.Carrying.{carried_from}
use Rattle.table.specs.Inner.{left_product, right_product}

pub basis-operand : (m k : ℕ) → IsOperand (bytes_for m) m (basis m k)
unfolding basis
basis-operand m k = from-operand (bytes_for m) m _

product-operand : {n m : ℕ} (t : List ℕ) {a : List ℕ} (b : List ℕ) → IsOperand n m a → IsOperand n m (product m t a b)
unfolding product
product-operand {n} {m} t b o = rw o.size (from-operand n m _)

pub left-operand : (m : ℕ) (t : List ℕ) (i j : ℕ) → IsOperand (bytes_for m) m (left_product m t i j)
unfolding left_product
left-operand m t i j = product-operand t _ (product-operand t _ (basis-operand m 0))

pub right_operand : (m : ℕ) (t : List ℕ) (i j : ℕ) → IsOperand (bytes_for m) m (right_product m t i j)
unfolding right_product
right_operand m t i j = product-operand t _ (basis-operand m 0)

-- the basis operand of a coordinate in the first byte
first_byte : ℕ → ℕ → ℕ
first_byte x zero = x
first_byte x (suc b) = 0

module _ (m k : ℕ) (low : k < 8) (l : k < m) where
  only : (i : ℕ) → below m (λ i. choose (eqb i k) 1 0) i ≡ choose (eqb i k) 1 0
  only i = elim (dec_lt i m) [
    | yes q ↦ below_in m _ i q
    | no q ↦ below_out m _ i (omega arith) ∙ sym (ap (λ b. choose b 1 0) (ne_eqb i k (omega arith)))
  ]

  bits : (b j : ℕ) → j < 8 → first_byte (1 * 2 ^ k % 256) b / 2 ^ j % 2 ≡ below m (λ i. choose (eqb i k) 1 0) (b * 8 + j) % 2
  unfolding first_byte
  bits zero j h =
      let place : j ≡ 0 * 8 + j = omega arith in
      sym (mod-mod (1 * 2 ^ k % 256 / 2 ^ j) 2) ∙ ap (λ x. x % 2) (one_bit 8 k j h ∙ sym (only j))
      ∙ ap (λ i. below m (λ i. choose (eqb i k) 1 0) i % 2) place
  bits (suc b) j h = ap (λ x. x % 2) (zero-div (2 ^ j) ∙ sym (only (suc b * 8 + j) ∙ ap (λ b. choose b 1 0) (ne_eqb (suc b * 8 + j) k (omega arith))))

  pub basis-carried : m ≤ 8 * carried_bytes → set (replicate carried_bytes 0) 0 (1 * 2 ^ k % 256) ≡ carried_by (basis m k)
  unfolding basis tabulate first_byte
  basis-carried h =
      let packed = pack-of carried_bytes (first_byte (1 * 2 ^ k % 256)) (below m (λ i. choose (eqb i k) 1 0)) small (λ b j l h. bits b j h) in
      packed ∙ sym (unfold from_coords in carried_from {n = bytes_for m} (omega arith) (omega arith) _)
    where
      small : (b : ℕ) → b < carried_bytes → first_byte (1 * 2 ^ k % 256) b < 256
      small zero h = mod-lt _ (omega arith)
      small (suc b) h = omega arith
