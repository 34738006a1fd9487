-- What holds where the test of a cause fails, and back: a width, a length, bits, the rules of a table, and the others of the table of faults.
use mathlib.Core.Path.{◌≡◌, refl, sym}
use mathlib.Core.Bool.{Bool, true, false, not, ◌&&◌}
use mathlib.Core.List.{List}
use Prim.Native.Nat.{ℕ, ◌*◌, ◌≤◌}
use native.Mathlib.Nat.{mul-le-mul}
use native.Mathlib.Omega.{arith}
use lib.Dec.{leb, eqb}
use borrow.Author.Tests.{leb-true, le-leb, ltb-false, le-ltb, eqb-true, eq-eqb}
use Rattle.gf2.specs.Sums.{every}
use Rattle.gf2.specs.Operands.{max_width, bytes_for, carried_bytes, IsOperand, is_clear, same}
use Rattle.gf2.specs.Tables.{row}
use Rattle.gf2.proofs.Parity.{and_both}
use Rattle.gf2.proofs.Operands.{clear_of}
use Rattle.gf2.proofs.Decisions.{same-decides}
use Rattle.judging.specs.FaultTable.{bad_width, bad_length, high_bit, high_bit_in_row, too_short}

pub not-not : (b : Bool) → not b ≡ false → b ≡ true
not-not true e = refl
not-not false e = sym e

-- a width: "m is the width, 2 to 571"
pub record IsWidth (m : ℕ) : Type 0 where
  pub least : 2 ≤ m
  pub greatest : m ≤ max_width

module _ (m : ℕ) where
  pub is-width : (bad_width m).test ≡ false → IsWidth m
  is-width e =
      let q = and_both (leb 2 m) (leb m max_width) (not-not (leb 2 m && leb m max_width) e) in
      record { least = leb-true 2 m q.0; greatest = leb-true m max_width q.1 }

  pub width-passes : IsWidth m → (bad_width m).test ≡ false
  width-passes w = rw (le-leb 2 m w.least, le-leb m max_width w.greatest)

-- m·W is a small number
pub size_small : (m : ℕ) → m ≤ max_width → m * bytes_for m ≤ max_width * carried_bytes
size_small m h = let w : bytes_for m ≤ carried_bytes = omega arith in mul-le-mul h w

module _ (given laid_down : ℕ) where
  pub as-laid-down : (bad_length given laid_down).test ≡ false → given ≡ laid_down
  as-laid-down e = eqb-true given laid_down (not-not (eqb given laid_down) e)

  pub length-passes : given ≡ laid_down → (bad_length given laid_down).test ≡ false
  length-passes e = rw (eq-eqb given laid_down e)

module _ (m : ℕ) (x : List ℕ) where
  pub is-clear : (high_bit m x).test ≡ false → is_clear m x ≡ true
  is-clear e = not-not (is_clear m x) e

  pub high-passes : is_clear m x ≡ true → (high_bit m x).test ≡ false
  high-passes e = rw e

  pub operand-passes : {n : ℕ} → IsOperand n m x → (high_bit m x).test ≡ false
  operand-passes o = high-passes (clear_of m x o.clear)

module _ (m : ℕ) (t : List ℕ) where
  pub are-clear : (high_bit_in_row m t).test ≡ false → every m (λ d. is_clear m (row m t d)) ≡ true
  are-clear e = not-not (every m (λ d. is_clear m (row m t d))) e

  pub rows_pass : every m (λ d. is_clear m (row m t d)) ≡ true → (high_bit_in_row m t).test ≡ false
  rows_pass e = rw e

-- two lists of bytes that must be the same
module _ (x y : List ℕ) where
  pub are-same : not (same x y) ≡ false → x ≡ y
  are-same e = (same-decides x y).0 (not-not (same x y) e)

  pub same-passes : x ≡ y → not (same x y) ≡ false
  same-passes e = rw ((same-decides x y).1 e)

pub has_room : (given needed : ℕ) → (too_short given needed).test ≡ false → needed ≤ given
has_room given needed e = ltb-false given needed e

pub room-passes : (given needed : ℕ) → needed ≤ given → (too_short given needed).test ≡ false
room-passes given needed h = le-ltb given needed h
