-- Laws of a list that starts with given gates and then, for each r, folds the terms of r.
-- folded-value: the output wire for r has the sum of its terms modulo 2. folded-earlier, outputs-below: every wire is there.
-- The run of a list on two operands: its inputs, and the products ai·bj of a list that starts with ANDs.
use mathlib.Core.Path.{◌≡◌, refl, sym, ap, ap₂, ◌∙◌}
use mathlib.Core.Bool.{Bool, true}
use mathlib.Core.List.{List}
use Prim.Native.Nat.{ℕ, suc, ◌+◌, ◌-◌, ◌*◌, ◌%◌, ◌<◌, ◌≤◌}
use native.Mathlib.Nat.{suc-mul, mul-le-mul_right}
use native.Mathlib.Decide.{dec_lt}
use native.Mathlib.Omega.{arith}
use lib.ListN.{length, get_or, length-append, get_or-append, get_or-eq_default}
use lib.Seq.{get_or-append-add}
use Rattle.gf2.specs.Sums.{sum}
use Rattle.gf2.specs.Coordinates.{coord, tabulate}
use Rattle.gf2.proofs.Sums.{sum-ext, sum-next}
use Rattle.gf2.proofs.Coordinates.{length-tabulate, get_d_tabulate, coord-lt}
use Rattle.netlist.specs.Gates.{Gate, AND, Netlist, and_gates, xor_gates}
use Rattle.netlist.specs.Lists.{each, pairs, before, and_wire, ands, fold, end, start, folds, ends, folded}
use Rattle.netlist.specs.Running.{value_on, inputs, wires}
use Rattle.gf2.proofs.Counts.{num, sum_ones, sum-const, sum_mono}
use Rattle.netlist.proofs.FoldLaws.{Below, Earlier, OnWires, Bits, AllXor, total, length-each, length-single, get_or-single, length_pairs, length-fold, all-each, all_one, below-mono, earlier-append, earlier-each, earlier-fold, earlier-pairs, end_below, run-keeps, run_holds, run-bits, bits-append, holds-append, holds-each, holds-pairs, total-pairs, fold-value, and-append, xor-append, all-xor-each, xor-fold}

-- the folds for each r, from wire n on
module _ (n : ℕ) (terms : ℕ → List ℕ) where
  length-folds : (m : ℕ) → length (folds m n terms) ≡ sum m (λ r. length (terms r) - 1)
  unfolding folds
  length-folds m = length-each m _ ∙ sum-ext m _ _ (λ r l. length-fold _ (terms r))

  start-length : (r : ℕ) → n + length (each r (λ k. fold (start n terms k) (terms k))) ≡ start n terms r
  unfolding start folds
  start-length r = ap (λ k. n + k) (length-folds r)

  pub start-folds : (r : ℕ) → n + length (folds r n terms) ≡ start n terms r
  unfolding folds
  start-folds r = start-length r

  start-more : (r : ℕ) → n ≤ start n terms r
  unfolding start
  start-more r = omega arith

  start-next : (r : ℕ) → start n terms (suc r) ≡ start n terms r + (length (terms r) - 1)
  unfolding start
  start-next r = omega (arith, sum-next (λ k. length (terms k) - 1) r)

  start-mono : (r m : ℕ) → r ≤ m → start n terms r ≤ start n terms m
  unfolding start
  start-mono r m h = omega (arith, sum_mono (λ k. length (terms k) - 1) r m h)

  pub length-ends : (m : ℕ) → length (ends m n terms) ≡ m
  unfolding ends
  length-ends m = length-single m _

  folds-value : (v : ℕ → ℕ) (m : ℕ) → OnWires v n (folds m n terms) → (r : ℕ) → r < m → 0 < length (terms r) → v (get_or (ends m n terms) r 0) % 2 ≡ total v (terms r) % 2
  unfolding folds ends
  folds-value v m h r l p =
      ap (λ w. v w % 2) (get_or-single m (λ r. end (start n terms r) (terms r)) 0 r l)
      ∙ fold-value v (start n terms r) (terms r) p (rw (start-length r) at (holds-each v n m _ h r l))

  module _ (m : ℕ) (b : (r : ℕ) → r < m → Below n (terms r)) where
    folds-earlier : Earlier n (folds m n terms)
    unfolding folds
    folds-earlier = earlier-each n m _ (λ r l. rw (start-length r) (earlier-fold (start n terms r) (terms r) (below-mono n _ (terms r) (start-more r) (b r l))))

    ends-below : 0 < n → Below (start n terms m) (ends m n terms)
    unfolding ends
    ends-below p = all-each _ m _ (λ r l. all_one _ _ (omega (
      arith,
      start-next r,
      start-mono (suc r) m l,
      start-more r,
      end_below (start n terms r) (terms r) (omega (arith, start-more r)) (below-mono n _ (terms r) (start-more r) (b r l)),
    )))

module _ (m : ℕ) (gates : List Gate) (terms : ℕ → List ℕ) where
  abbrev list : Netlist
  list = folded m gates terms

  pub folded-value : (v : ℕ → ℕ) → OnWires v (2 * m) list.gates → (r : ℕ) → r < m → 0 < length (terms r) → v (get_or list.outputs r 0) % 2 ≡ total v (terms r) % 2
  unfolding folded
  folded-value v h r l p = folds-value (2 * m + length gates) terms v m (holds-append v (2 * m) gates _ h).1 r l p

  pub folded_start : (v : ℕ → ℕ) → OnWires v (2 * m) list.gates → OnWires v (2 * m) gates
  unfolding folded
  folded_start v h = (holds-append v (2 * m) gates _ h).0

  pub length-outputs : length list.outputs ≡ m
  unfolding folded
  length-outputs = length-ends _ terms m

  pub folded-length : length list.gates ≡ length gates + sum m (λ r. length (terms r) - 1)
  unfolding folded
  folded-length = length-append gates _ ∙ ap (λ k. length gates + k) (length-folds _ terms m)

  all-xor : AllXor (folds m (2 * m + length gates) terms)
  unfolding folds
  all-xor = all-xor-each m _ (λ r. xor-fold _ (terms r))

  pub folded-ands : and_gates list.gates ≡ and_gates gates
  unfolding folded
  folded-ands = and-append gates _ ∙ omega (arith, all-xor.ands)

  pub folded-xors : xor_gates list.gates ≡ xor_gates gates + sum m (λ r. length (terms r) - 1)
  unfolding folded
  folded-xors = xor-append gates _ ∙ ap (λ k. xor_gates gates + k) (all-xor.xors ∙ length-folds _ terms m)

  module _ (e : Earlier (2 * m) gates) (b : (r : ℕ) → r < m → Below (2 * m + length gates) (terms r)) where
    pub folded-earlier : Earlier (2 * m) list.gates
    unfolding folded
    folded-earlier = earlier-append (2 * m) gates _ e (folds-earlier _ terms m b)

    pub outputs-below : 0 < m → Below (2 * m + length list.gates) list.outputs
    outputs-below p = rw size (unfold folded in ends-below (2 * m + length gates) terms m b (omega arith))
      where
        size : 2 * m + length list.gates ≡ start (2 * m + length gates) terms m
        size = unfold folded in omega (arith, length-append gates (folds m (2 * m + length gates) terms), start-folds (2 * m + length gates) terms m)

-- where ai·bj stands
pub before-all : (m i j : ℕ) → before m (λ i j. true) i j ≡ i * m + j
unfolding before
before-all m i j = ap₂ ◌+◌ (sum-ext i _ (λ k. m) (λ k l. sum_ones m) ∙ sum-const i m) (sum_ones j)

pub length-ands : (m : ℕ) → length (ands m) ≡ m * m
unfolding ands
length-ands m = length_pairs m (λ i j. true) (λ i j. AND i (m + j)) ∙ sum-ext m _ (λ k. m) (λ k l. sum_ones m) ∙ sum-const m m

pub and_below : (m i j : ℕ) → i < m → j < m → i * m + j < m * m
and_below m i j li lj = omega (arith, rw suc-mul at (mul-le-mul_right {m = suc i} {n = m} m li))

pub earlier-ands : (m : ℕ) → Earlier (2 * m) (ands m)
unfolding ands
earlier-ands m = earlier-pairs (2 * m) m (λ i j. true) (λ i j. AND i (m + j)) (λ i j li lj. (omega arith, omega arith))

-- the run of a list on a and b
bits-tabulate : (n : ℕ) (f : ℕ → ℕ) → ((i : ℕ) → f i < 2) → Bits (tabulate n f)
bits-tabulate n f h k = elim (dec_lt k n) [
  | yes l ↦ rw (get_d_tabulate n f k l) (h k)
  | no l ↦ rw (get_or-eq_default (tabulate n f) 0 {n = k} (omega (arith, length-tabulate n f))) (omega arith)
]

module _ (m : ℕ) (a b : List ℕ) where
  pub length-inputs : length (inputs m a b) ≡ 2 * m
  unfolding inputs
  length-inputs = length-append (tabulate m (coord a)) _ ∙ omega (arith, length-tabulate m (coord a), length-tabulate m (coord b))

  pub inputs-bits : Bits (inputs m a b)
  unfolding inputs
  inputs-bits = bits-append (tabulate m (coord a)) _ (bits-tabulate m (coord a) (coord-lt a)) (bits-tabulate m (coord b) (coord-lt b))

  inputs-a : (i : ℕ) → i < m → value_on (inputs m a b) i ≡ coord a i
  unfolding inputs
  inputs-a i l = get_or-append (tabulate m (coord a)) _ 0 i (omega (arith, length-tabulate m (coord a))) ∙ get_d_tabulate m (coord a) i l

  inputs-b : (i : ℕ) → i < m → value_on (inputs m a b) (m + i) ≡ coord b i
  unfolding inputs
  inputs-b i l =
      ap (λ k. value_on (inputs m a b) (k + i)) (sym (length-tabulate m (coord a)))
      ∙ get_or-append-add (tabulate m (coord a)) (tabulate m (coord b)) i 0 ∙ get_d_tabulate m (coord b) i l

  module _ (list : Netlist) where
    pub wires-bits : Bits (wires m list a b)
    unfolding wires
    wires-bits = run-bits list.gates (inputs m a b) inputs-bits

    kept : (k : ℕ) → k < 2 * m → value_on (wires m list a b) k ≡ value_on (inputs m a b) k
    unfolding wires
    kept k l = run-keeps list.gates (inputs m a b) k (rw length-inputs l)

    pub wires-a : (i : ℕ) → i < m → value_on (wires m list a b) i ≡ coord a i
    wires-a i l = kept i (omega arith) ∙ inputs-a i l

    pub wires-b : (i : ℕ) → i < m → value_on (wires m list a b) (m + i) ≡ coord b i
    wires-b i l = kept (m + i) (omega arith) ∙ inputs-b i l

    pub wires-hold : Earlier (2 * m) list.gates → OnWires (value_on (wires m list a b)) (2 * m) list.gates
    unfolding wires
    wires-hold e = rw length-inputs at (run_holds list.gates (inputs m a b) (rw length-inputs e))

    -- where the ANDs hold
    module _ (h : OnWires (value_on (wires m list a b)) (2 * m) (ands m)) where
      pub and-value : (i j : ℕ) → i < m → j < m → value_on (wires m list a b) (and_wire m i j) ≡ coord a i * coord b j
      unfolding ands
      and-value i j li lj =
          ap (λ k. value_on (wires m list a b) (2 * m + k)) (sym (before-all m i j))
          ∙ holds-pairs _ (2 * m) m (λ i j. true) (λ i j. AND i (m + j)) h i j li lj refl ∙ ap₂ ◌*◌ (wires-a i li) (wires-b j lj)

      pub picked_value : (test : ℕ → ℕ → Bool) → total (value_on (wires m list a b)) (pairs m test (and_wire m)) ≡ sum m (λ i. sum m (λ j. num (test i j) * (coord a i * coord b j)))
      picked_value test = total-pairs _ m test (and_wire m) ∙ sum-ext m _ _ (λ i li. sum-ext m _ _ (λ j lj. ap (λ x. num (test i j) * x) (and-value i j li lj)))
