-- The equation y² + x·y = x³ + a·x² + b of a curve, by the calls on operands.
use Rattle.std.specs.Prelude.{Bool, false, ◌&&◌, List, ℕ, leb, Result, Ok, Err}
use Rattle.gf2.specs.Operands.{max_width, is_clear}
use Rattle.operand.specs.declared.Operand.{Operand}
use Rattle.judging.specs.declared.fault.Fault.{Fault}
use Rattle.operand.specs.Calls.{square_call, sum_call}
use Rattle.product.specs.Calls.{product_call}
use Rattle.curves.specs.Published.{published}

-- a sum that is zero, and no fault
abbrev pub sums_to_zero : Result Operand Fault → Bool
sums_to_zero (Ok a) = is_clear 0 a.bytes
sums_to_zero (Err f) = false

-- a call on the operand that another answered, or its fault
abbrev pub and_then : {A : Type 0} → Result Operand Fault → (Operand → Result A Fault) → Result A Fault
and_then (Ok a) next = next a
and_then (Err f) next = Err f

module _ (m : ℕ) (table : List ℕ) where
  -- y² + x·y
  unfoldable pub left_side : Operand → Operand → Result Operand Fault
  left_side x y = and_then (square_call y) (λ square. and_then (product_call m table x y) (λ product. sum_call square product))

  -- x³ + a·x²
  unfoldable pub cube_and_term : Operand → Operand → Result Operand Fault
  cube_and_term a x =
      and_then (square_call x) (λ square.
      and_then (product_call m table square x) (λ cube.
      and_then (product_call m table a square) (λ term. sum_call cube term)))

  -- x³ + a·x² + b
  unfoldable pub right_side : Operand → Operand → Operand → Result Operand Fault
  right_side a b x = and_then (cube_and_term a x) (λ sum. sum_call sum b)

  -- the sum of the sides, where no call on the way gave a fault
  unfoldable pub difference : Operand → Operand → Operand → Operand → Result Operand Fault
  difference a b x y = and_then (left_side x y) (λ left. and_then (right_side a b x) (λ right. sum_call left right))

  -- that sum is zero
  unfoldable pub on_curve : Operand → Operand → Operand → Operand → Bool
  on_curve a b x y = sums_to_zero (difference a b x y)

-- whether a point is on the curve, once its y is there
abbrev pub has_point : (Operand → Bool) → Result Operand Fault → Bool
has_point test (Ok y) = test y
has_point test (Err f) = false

-- m is no greater than the greatest width, and the point with the published digits x and y, `change` added to y,
-- is on the curve with the coefficients a and b
abbrev pub point_on_curve : ℕ → List ℕ → List ℕ → List ℕ → List ℕ → List ℕ → List ℕ → Bool
point_on_curve m table a b x y change =
    leb m max_width
    && has_point (on_curve m table (published m a) (published m b) (published m x)) (sum_call (published m y) (published m change))
