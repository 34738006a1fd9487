-- The size of a list: no table that keeps rules 4 and 5 has a list of more than m·m·m gates.
-- Ones: how many a table has at most, and how many under rule 4. Gates: bounds of their number in each list, and the words they need.
use mathlib.Core.Path.{◌≡◌, refl, sym, ap, ◌∙◌}
use mathlib.Core.Bool.{Bool, true, false}
use mathlib.Core.List.{List, [], ◌∷◌}
use Prim.Native.Nat.{ℕ, zero, suc, ◌+◌, ◌-◌, ◌*◌, ◌%◌, ◌<◌, ◌≤◌}
use native.Mathlib.Nat.{mul-one, mul_assoc, mul-add, mul-sub, mul_comm, mul-le-mul, mul-le-mul_left, mul-le-mul_right}
use native.Mathlib.Omega.{arith}
use lib.ListN.{length}
use lib.Dec.{eqb}
use borrow.Author.Tests.{eqb-true}
use Rattle.gf2.specs.Sums.{sum}
use Rattle.gf2.specs.Coordinates.{coord}
use Rattle.gf2.specs.Operands.{max_width, bytes_for}
use Rattle.gf2.specs.Tables.{IsTable, row, basis, ones_in}
use Rattle.gf2.specs.Check.{Rule4, Symmetric}
use Rattle.gf2.proofs.Sums.{sum-ext, sum-split, sum-bits, sum-zero, sum-next, sum-most}
use Rattle.gf2.proofs.Coordinates.{coord-lt}
use Rattle.gf2.proofs.Operands.{coord-from}
use Rattle.gf2.proofs.OperandVectors.{bytes_fit}
use Rattle.netlist.specs.Gates.{Gate, AND, XOR, Netlist, and_gates, xor_gates}
use Rattle.netlist.specs.Lists.{plain, reduced, common, full_rows}
use Rattle.netlist.specs.Counts.{plain_xors, reduced_xors, common_xors}
use Rattle.netlist.specs.Statements.{Sized}
use Rattle.gf2.proofs.Counts.{num, count-one}
use Rattle.netlist.proofs.ListLaws.{Sound, Gates, shared-ones, plain-sound, plain-gates, reduced-sound, reduced-gates, common-sound, common-gates}
use Rattle.netlist.proofs.WordLaws.{size-words}

-- Ones
row-ones : (m : ℕ) (bytes : List ℕ) → sum m (coord bytes) ≤ m
row-ones m bytes = sum-bits m (coord bytes) (coord-lt bytes)

pub ones-most : (m : ℕ) (table : List ℕ) → ones_in m table ≤ m * m
unfolding ones_in
ones-most m table = sum-most m m _ (λ d. row-ones m (row m table d))

-- a basis operand has one coordinate, and so no more than one
pub coord-basis : (m k i : ℕ) → i < m → coord (basis m k) i ≡ num (eqb i k)
unfolding basis
coord-basis m k i l = coord-from (bytes_for m) m _ (bytes_fit m) i l ∙ bit (eqb i k)
  where
    bit : (b : Bool) → num b % 2 ≡ num b
    bit true = refl
    bit false = refl

basis-ones : (m k : ℕ) → sum m (coord (basis m k)) ≤ 1
basis-ones m k = rw (sum-ext m _ (λ i. num (eqb i k)) (λ i l. coord-basis m k i l))
    (count-one m (λ i. eqb i k) (λ d e ld le p q. eqb-true d k p ∙ sym (eqb-true e k q)))

-- under rule 4 row 0 has a single one, and no other row more than m
pub rule4-ones : (m : ℕ) (table : List ℕ) → 0 < m → Rule4 m table → ones_in m table ≤ 1 + (m - 1) * m
unfolding ones_in
rule4-ones m table p e = rw (ap (λ n. sum n f) there ∙ sum-split 1 (m - 1) f) (omega (
  arith,
  first,
  sum-most (m - 1) m (λ d. f (1 + d)) (λ d. row-ones m (row m table (1 + d))),
))
  where
    f : ℕ → ℕ
    f d = sum m (coord (row m table d))

    there : m ≡ 1 + (m - 1)
    there = omega arith

    first : sum 1 f ≤ 1
    first = rw (sum-next f 0, sum-zero f) (omega (arith, ap (λ l. sum m (coord l)) e, basis-ones m 1))

-- Gates
pub gate-kinds : (gs : List Gate) → length gs ≡ and_gates gs + xor_gates gs
unfolding and_gates xor_gates
gate-kinds [] = refl
gate-kinds (AND l r ∷ gs) = omega (arith, gate-kinds gs)
gate-kinds (XOR l r ∷ gs) = omega (arith, gate-kinds gs)

-- the numbers of gates, from a number C of ones that rule 4 allows
module _ (m ones : ℕ) (two : 2 ≤ m) (few : ones ≤ 1 + (m - 1) * m) where
  cube : m * (m * m) ≡ m * m * m
  cube = sym (mul_assoc m m m)

  twice : (x : ℕ) → 2 * x ≤ m * x
  twice x = mul-le-mul_right {m = 2} {n = m} x two

  fewer : ones ≤ 1 + (m * m - m)
  fewer = omega (arith, few, mul_comm (m - 1) m, mul-sub m m 1, mul-one m)

  plain-few : m * m + plain_xors m ones ≤ m * m * m
  plain-few = omega (arith, cube, twice (m * m), mul-le-mul_left {m = ones - 1} {n = m * m - m} m (omega (arith, fewer)), mul-sub m (m * m) m)

  reduced-few : m * m + reduced_xors m ones ≤ m * m * m
  reduced-few = omega (
    arith,
    cube,
    twice (m * m),
    mul-le-mul_left {m = ones + m - 2} {n = m * m - 1} m (omega (arith, fewer, twice m)),
    mul-sub m (m * m) 1,
    mul-one m,
  )

  common-few : (q : ℕ) → m * q ≤ ones → m * m + common_xors m ones q ≤ m * m * m
  common-few zero h = plain-few
  common-few (suc q) h =
      let shared = m * suc q in
      omega (
        arith,
        cube,
        twice (m * m),
        twice shared,
        mul-le-mul_left {m = 1} {n = suc q} m (omega arith),
        mul-one m,
        mul-sub m ones shared,
        mul-le-mul_left {m = shared} {n = ones} m h,
        mul-le-mul_left {m = ones} {n = 1 + (m * m - m)} m fewer,
        mul-add m 1 (m * m - m),
        mul-sub m (m * m) m,
      )

module _ (m : ℕ) (table : List ℕ) where
  sized : (list : Netlist) {x : ℕ} → Sound m list → Gates list (m * m) x → m * m + x ≤ m * m * m → Sized m list
  sized list sound gates few = record {
    kinds = gate-kinds list.gates;
    by_gates = size-words m list sound.size;
    by_counts = size-words m list sound.size ∙ ap (λ g. 2 + 3 * g + m) (gate-kinds list.gates);
    most_gates = omega (arith, gates.all, few);
    most_words = omega (arith, size-words m list sound.size, gates.all, few);
  }

  module _ (two : 2 ≤ m) (is : IsTable m table) (s : Symmetric m table) where
    few_ones : ones_in m table ≤ 1 + (m - 1) * m
    few_ones = rule4-ones m table (omega arith) s.rule4

    pub plain-sized : Sized m (plain m table)
    plain-sized = sized (plain m table) (plain-sound m table two is s) (plain-gates m table two is s) (plain-few m (ones_in m table) two few_ones)

    pub reduced-sized : Sized m (reduced m table)
    reduced-sized = sized (reduced m table) (reduced-sound m table two is s) (reduced-gates m table two is s) (reduced-few m (ones_in m table) two few_ones)

    pub common-sized : Sized m (common m table)
    common-sized = sized (common m table) (common-sound m table two is s) (common-gates m table two is s)
        (common-few m (ones_in m table) two few_ones (full_rows m table) (shared-ones m table two is s))

-- both counts of a list, of whatever width
pub counts-most : (m : ℕ) (list : Netlist) → m ≤ max_width → Sized m list → and_gates list.gates + xor_gates list.gates ≤ max_width * max_width * max_width
counts-most m list h s = omega (
  arith,
  s.kinds,
  s.most_gates,
  mul-le-mul {n₁ = m * m} {m₁ = m} {n₂ = max_width * max_width} {m₂ = max_width} (mul-le-mul {n₁ = m} {m₁ = m} {n₂ = max_width} {m₂ = max_width} h h) h,
)
