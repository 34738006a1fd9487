-- Operands of width m = p + 1 as vectors.
-- vec a: the coordinates of a below m; bytes n v: the operand of n bytes with the coordinates v.
-- An operand is the bytes of its vector (operand-vec), and enough bytes give the vector back (vec-bytes).
-- Zero, one, sum, turn and basis operands are the bytes of the vectors of those names, whatever bytes they are made from.
use mathlib.Core.Path.{◌≡◌, refl, sym, ◌∙◌, ap, fun_ext}
use mathlib.Core.List.{List}
use mathlib.Core.Bool.{Bool, true, false}
use Prim.Native.Nat.{ℕ, suc, ◌*◌, ◌<◌, ◌≤◌}
use native.Mathlib.Nat.{mod-eq_of_lt}
use native.Mathlib.Omega.{arith}
use lib.ListN.{length}
use lib.Dec.{eqb}
use Rattle.gf2.specs.Coordinates.{coord}
use Rattle.gf2.specs.Operands.{bytes_for, choose, IsOperand, from_coords, zeroes, ones as all_ones, added, turned}
use Rattle.gf2.specs.Tables.{basis}
use Rattle.gf2.proofs.Coordinates.{coord-lt}
use Rattle.gf2.proofs.Operands.{coord-from, length_from, from-operand, from-coord, from-ext}
use Rattle.gf2.proofs.Parity.{odd, bit, odd-zero, odd-one, odd-bit, odd-mod, odd-add, odd-eq, bit-odd}
use Rattle.gf2.proofs.Index.{Ix, at, num-at, at-num, num-minus}
use Rattle.gf2.proofs.Vector.{Vec, turn, β, ones, zeros, add}

pub bit-coord : (a : List ℕ) (i : ℕ) → bit (odd (coord a i)) ≡ coord a i
bit-coord a i = bit-odd (coord a i) ∙ mod-eq_of_lt (coord-lt a i)

pub bytes_fit : (m : ℕ) → m ≤ 8 * bytes_for m
bytes_fit m = omega arith

module _ (p : ℕ) where
  unfoldable pub vec : List ℕ → Vec p
  vec a x = odd (coord a x.num)

  unfoldable pub bytes : ℕ → Vec p → List ℕ
  bytes n v = from_coords n (suc p) (λ i. bit (v (at i)))

  pub length-bytes : (n : ℕ) (v : Vec p) → length (bytes n v) ≡ n
  unfolding bytes
  length-bytes n v = length_from n (suc p) _

  pub bytes-operand : (n : ℕ) (v : Vec p) → IsOperand n (suc p) (bytes n v)
  unfolding bytes
  bytes-operand n v = from-operand n (suc p) _

  pub vec-bytes : (n : ℕ) (v : Vec p) → suc p ≤ 8 * n → vec (bytes n v) ≡ v
  unfolding vec bytes
  vec-bytes n v fits = fun_ext (λ x.
      ap odd (coord-from n (suc p) _ fits x.num x.below) ∙ odd-mod (bit (v (at x.num))) ∙ odd-bit (v (at x.num)) ∙ ap v (at-num x))

  pub from_vec : (n : ℕ) (f : ℕ → ℕ) (v : Vec p) → ((x : Ix p) → odd (f x.num) ≡ v x) → from_coords n (suc p) f ≡ bytes n v
  unfolding bytes
  from_vec n f v h = from-ext n (suc p) f _ (λ i l. (odd-eq (f i) (bit (v (at i)))).0
      (ap (λ k. odd (f k)) (sym (num-at {p = p} i l)) ∙ h (at i) ∙ sym (odd-bit (v (at i)))))

  pub operand-vec : {n : ℕ} {a : List ℕ} → IsOperand n (suc p) a → a ≡ bytes n (vec a)
  unfolding vec
  operand-vec {n} {a} h = from-coord h ∙ from_vec n (coord a) _ (λ x. refl)

  pub zeroes-vec : (n : ℕ) → zeroes n (suc p) ≡ bytes n zeros
  unfolding zeroes
  zeroes-vec n = from_vec n _ zeros (λ x. odd-zero)

  pub ones-vec : (n : ℕ) → all_ones n (suc p) ≡ bytes n ones
  unfolding all_ones
  ones-vec n = from_vec n _ ones (λ x. odd-one)

  pub added-vec : (a b : List ℕ) → added (suc p) a b ≡ bytes (length a) (add (vec a) (vec b))
  unfolding added vec add
  added-vec a b = from_vec (length a) _ _ (λ x. odd-add (coord a x.num) (coord b x.num))

  pub turned-vec : (k : ℕ) (a : List ℕ) → turned (suc p) k a ≡ bytes (length a) (turn (at k) (vec a))
  unfolding turned vec turn
  turned-vec k a = from_vec (length a) _ _ (λ x. ap (λ i. odd (coord a i)) (num-minus x k))

  pub basis-vec : (k : ℕ) → k < suc p → basis (suc p) k ≡ bytes (bytes_for (suc p)) (β (at k))
  unfolding basis β
  basis-vec k l = from_vec (bytes_for (suc p)) _ _ (λ x. test (eqb x.num k) ∙ ap (eqb x.num) (sym (num-at k l)))
    where
      test : (b : Bool) → odd (choose b 1 0) ≡ b
      test true = odd-one
      test false = odd-zero

  -- with bytes enough for the width
  module _ (n : ℕ) (fits : suc p ≤ 8 * n) where
    pub bytes-inj : (v w : Vec p) → bytes n v ≡ bytes n w → v ≡ w
    bytes-inj v w e = sym (vec-bytes n v fits) ∙ ap vec e ∙ vec-bytes n w fits

    pub added-bytes : (v w : Vec p) → added (suc p) (bytes n v) (bytes n w) ≡ bytes n (add v w)
    added-bytes v w = simp (added-vec, length-bytes, vec-bytes)

    pub turned-bytes : (k : ℕ) (v : Vec p) → turned (suc p) k (bytes n v) ≡ bytes n (turn (at k) v)
    turned-bytes k v = simp (turned-vec, length-bytes, vec-bytes)
