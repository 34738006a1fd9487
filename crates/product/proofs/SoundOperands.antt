-- Operands without fault: what the calls answer for them.
use Rattle.std.specs.Prelude.{Result, Ok, IsOk}
use mathlib.Core.Path.{◌≡◌, refl, sym, ap, ap₂, ◌∙◌}
use Prim.Native.Nat.{ℕ, ◌+◌, ◌*◌, ◌%◌, ◌≤◌}
use native.Mathlib.Nat.{mod-mod, mod-eq_of_lt}
use native.Mathlib.Omega.{arith}
use Rattle.gf2.specs.Coordinates.{coord}
use Rattle.gf2.specs.Operands.{carried_bytes, max_width, minus, from_coords, added, turned, squared}
use Rattle.gf2.proofs.Coordinates.{coord-lt}
use Rattle.gf2.proofs.Operands.{minus-lt, from-operand, from-eq, from-ext, coord-from, length_from}
use Rattle.operand.specs.declared.Operand.{Operand}
use Rattle.operand.specs.Calls.{turn_call, square_call, sum_call}
use Rattle.operand.proofs.FaultFree.{turn-done, square-done, sum_done}
use Rattle.judging.specs.declared.fault.Fault.{Fault}
use Rattle.judging.proofs.Passed.{IsWidth}
use Rattle.product.specs.Inner.{Sound, operand_of, made}

-- a width's operand has room in the carried bytes
pub fits : (m : ℕ) → m ≤ max_width → m ≤ 8 * carried_bytes
fits m h = omega arith

-- a call that is known to answer a value: `unwrap` may take it, and takes that value
pub unwraps : {A : Type 0} {r x : Result A Fault} {v : A} → r ≡ x → x ≡ Ok v → IsOk r
unwraps e h = rw (e ∙ h)

pub unwrapped : {A : Type 0} {r x : Result A Fault} {v w : A} → r ≡ x → x ≡ Ok v → r ≡ Ok w → w ≡ v
unwrapped e h u = cc

module _ {m : ℕ} {a : Operand} (s : Sound m a) where
  pub is_carried : a ≡ operand_of m a.bytes
  is_carried = ap (λ w. operand_of w a.bytes) s.width

  pub is_made : a ≡ made m (coord a.bytes)
  is_made = is_carried ∙ ap (operand_of m) (from-eq carried_bytes m (coord a.bytes) s.operand (λ i l. sym (mod-eq_of_lt (coord-lt a.bytes i))))

  -- an operand of the same width, made from coordinates
  pub made-sound : {r : Operand} (f : ℕ → ℕ) → r ≡ made m f → Sound m r
  made-sound f e = rw e (record { least = s.least; greatest = s.greatest; width = refl; operand = from-operand carried_bytes m f })

  pub turn-is : (k : ℕ) → turn_call a k ≡ Ok (operand_of m (turned m k a.bytes))
  turn-is k = ap (λ x. turn_call x k) is_carried ∙ turn-done (record { least = s.least; greatest = s.greatest }) s.operand k

  pub turn-made : (k : ℕ) → turn_call a k ≡ Ok (made m (λ i. coord a.bytes (minus m i k)))
  unfolding turned
  turn-made k = turn-is k ∙ ap (λ n. Ok (operand_of m (from_coords n m (λ i. coord a.bytes (minus m i k))))) s.operand.size

pub sum-parts : {a b : ℕ} (c d : ℕ) → a ≡ c % 2 → b ≡ d % 2 → (a + b) % 2 ≡ (c + d) % 2
sum-parts c d p q = omega arith

-- operands that are made from coordinates: their sum, and the square of one
module _ {m : ℕ} (least : 2 ≤ m) (greatest : m ≤ max_width) where
  width_of : IsWidth m
  width_of = record { least = least; greatest = greatest }

  pub sum-made : (f h : ℕ → ℕ) {a b : Operand} → a ≡ made m f → b ≡ made m h → sum_call a b ≡ Ok (made m (λ i. f i + h i))
  unfolding added
  sum-made f h p q =
      ap₂ sum_call p q ∙ sum_done width_of (from-operand carried_bytes m f) (from-operand carried_bytes m h)
      ∙ ap (λ x. Ok (operand_of m x)) (ap (λ n. from_coords n m (λ i. coord (from_coords carried_bytes m f) i + coord (from_coords carried_bytes m h) i)) (length_from carried_bytes m f)
      ∙ from-ext carried_bytes m _ _ (λ i l. sum-parts _ _ (coord-from carried_bytes m f (fits m greatest) i l) (coord-from carried_bytes m h (fits m greatest) i l)))

  pub square-made : (f : ℕ → ℕ) {a : Operand} → a ≡ made m f → square_call a ≡ Ok (made m (λ i. f (minus m i 1)))
  unfolding squared turned
  square-made f p =
      ap square_call p ∙ square-done width_of (from-operand carried_bytes m f)
      ∙ ap (λ x. Ok (operand_of m x)) (ap (λ n. from_coords n m (λ i. coord (from_coords carried_bytes m f) (minus m i 1))) (length_from carried_bytes m f)
      ∙ from-ext carried_bytes m _ _ (λ i l. ap (λ y. y % 2) (coord-from carried_bytes m f (fits m greatest) (minus m i 1) (minus-lt m i 1 (omega arith))) ∙ mod-mod _ 2))
