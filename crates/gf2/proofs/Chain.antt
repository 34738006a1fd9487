-- The chain of doublings and addings that gives the inverse.
-- products-made: its number of products, under any table.
-- inverse-vec: under rules 4, 5 and 6 it gives t (m-1) of VectorField, turned by one; power-vec: powers as vectors.
use mathlib.Core.Path.{◌≡◌, refl, sym, ◌∙◌, ap}
use mathlib.Core.List.{List}
use Prim.Native.Nat.{ℕ, zero, suc, ◌+◌, ◌-◌, ◌*◌, ◌/◌, ◌%◌, ◌^◌, ◌<◌, ◌≤◌}
use native.Mathlib.Nat.{div-div-eq-div-mul, pow-suc, div-one}
use native.Mathlib.Omega.{arith}
use Rattle.gf2.specs.Sums.{sum}
use Rattle.gf2.specs.Operands.{turned}
use Rattle.gf2.specs.Tables.{IsTable}
use Rattle.gf2.specs.Inverse.{log2, binary_ones, Chain, start, doubling, adding, digits, inverse, products_made}
use Rattle.gf2.specs.Statements.{power}
use Rattle.gf2.proofs.Logarithm.{top_digit}
use Rattle.gf2.proofs.Index.{Ix, at}
use Rattle.gf2.proofs.Vector.{Vec, turn}
use Rattle.gf2.proofs.VectorField.{Laws, t, t-one, t-suc, t-add, pow}
use Rattle.gf2.proofs.OperandVectors.{bytes, length-bytes, ones-vec, turned-bytes}
use Rattle.gf2.proofs.TableVectors.{rows, product-bytes}

module _ (m : ℕ) (table a : List ℕ) where
  -- a digit adds itself to k and to the count
  adding-digit : (d : ℕ) → d < 2 → (s : Chain) → ((adding m table a d s).k ≡ s.k + d) × ((adding m table a d s).count ≡ s.count + d)
  unfolding adding
  adding-digit zero l s = (omega arith, omega arith)
  adding-digit (suc zero) l s = (refl, refl)
  adding-digit (suc (suc d)) l s = absurd (omega arith)

  digits-count : (n unread : ℕ) (s : Chain) → (digits m table a n unread s).count ≡ s.count + unread + sum unread (λ j. n / 2 ^ j % 2)
  unfolding digits sum
  digits-count n zero s = omega arith
  digits-count n (suc u) s = digits-count n u _ ∙ (unfold doubling in omega (arith, (adding-digit (n / 2 ^ u % 2) (omega arith) (doubling m table s)).1))

  pub products-made : 2 ≤ m → products_made m table a ≡ log2 (m - 1) + binary_ones (m - 1) - 1
  unfolding products_made binary_ones sum
  products-made h = digits-count (m - 1) (log2 (m - 1)) (start a) ∙ omega (arith, top_digit (m - 1) (omega arith))

module _ (p : ℕ) (table : List ℕ) (is : IsTable (suc p) table) (c : Laws (rows p table)) (n : ℕ) (fits : suc p ≤ 8 * n) (v : Vec p) where
  abbrev T : Ix p → Vec p
  T = rows p table

  -- the operand of n bytes with the vector v
  abbrev a : List ℕ
  a = bytes p n v

  -- a state holds the power that its k says
  pub record PowerHeld (s : Chain) : Type 0 where
    pub power : s.t ≡ bytes p n (t T s.k v)

  doubling-holds : (s : Chain) → PowerHeld s → PowerHeld (doubling (suc p) table s)
  unfolding doubling
  doubling-holds s h = record {
    power = rw (h.power, turned-bytes p n fits, product-bytes p table is n fits, t-add T c s.k s.k v)
        (ap (λ k. bytes p n (t T k v)) (omega arith));
  }

  adding-holds : (d : ℕ) (s : Chain) → PowerHeld s → PowerHeld (adding (suc p) table a d s)
  unfolding adding
  adding-holds zero s h = h
  adding-holds (suc d) s h = record {
    power = rw (h.power, turned-bytes p n fits, product-bytes p table is n fits, t-suc T c s.k v)
        (ap (λ k. bytes p n (t T k v)) (omega arith));
  }

  digits-holds : (e unread : ℕ) (s : Chain) → PowerHeld s → s.k ≡ e / 2 ^ unread → (digits (suc p) table a e unread s).t ≡ bytes p n (t T e v)
  unfolding digits
  digits-holds e zero s h q = h.power ∙ ap (λ k. bytes p n (t T k v)) (q ∙ div-one e)
  digits-holds e (suc u) s h q = digits-holds e u _ (adding-holds (e / 2 ^ u % 2) _ (doubling-holds s h)) next
    where
      next : (adding (suc p) table a (e / 2 ^ u % 2) (doubling (suc p) table s)).k ≡ e / 2 ^ u
      next = unfold doubling in omega (
        arith,
        (adding-digit (suc p) table a (e / 2 ^ u % 2) (omega arith) (doubling (suc p) table s)).0,
        q ∙ ap (λ k. e / k) (pow-suc 2 u) ∙ sym (div-div-eq-div-mul e (2 ^ u) 2),
      )

  pub inverse-vec : 1 < suc p → inverse (suc p) table (bytes p n v) ≡ bytes p n (turn (at 1) (t (rows p table) p v))
  unfolding inverse
  inverse-vec two =
      ap (turned (suc p) 1) (digits-holds (suc p - 1) (log2 (suc p - 1)) (start a) first (sym (top_digit (suc p - 1) (omega arith))))
      ∙ turned-bytes p n fits 1 _ ∙ ap (λ k. bytes p n (turn (at 1) (t T k v))) (omega arith)
    where
      first : PowerHeld (start a)
      first = record { power = ap (bytes p n) (sym (t-one T v)) }

  pub power-vec : (k : ℕ) → power (suc p) table k (bytes p n v) ≡ bytes p n (pow (rows p table) k v)
  unfolding power pow
  power-vec zero = rw length-bytes (ones-vec p n)
  power-vec (suc k) = rw (power-vec k, product-bytes p table is n fits)
