-- The proofs of Statements: theorem_lists, theorem_counts, theorem_common.
use mathlib.Core.Path.{◌≡◌, refl, sym, ap, ap₂, ◌∙◌}
use mathlib.Core.Bool.{Bool, true, false}
use mathlib.Core.List.{List}
use Prim.Native.Nat.{ℕ, suc, ◌+◌, ◌-◌, ◌*◌, ◌%◌, ◌<◌, ◌≤◌}
use native.Mathlib.Nat.{mod-eq_of_lt, mul-one}
use native.Mathlib.Omega.{arith}
use lib.ListN.{length, get_or}
use Rattle.gf2.specs.Coordinates.{coord}
use Rattle.gf2.specs.Operands.{bytes_for, ones, from_coords}
use Rattle.gf2.specs.Tables.{IsTable, row, ones_in}
use Rattle.gf2.specs.Products.{product}
use Rattle.gf2.specs.Check.{Accepted}
use Rattle.gf2.proofs.Sums.{sum-none, sum-next}
use Rattle.gf2.proofs.Operands.{coord-from, from-eq, from-ext, from-coord, from-operand}
use Rattle.gf2.proofs.OperandVectors.{bytes_fit}
use Rattle.gf2.proofs.Theorems.{theorem_a, theorem_e}
use Rattle.table.proofs.Theorems.{symmetry}
use Rattle.netlist.specs.Gates.{Netlist}
use Rattle.netlist.specs.Lists.{plain, reduced, common, all_ones, full_rows}
use Rattle.netlist.specs.Running.{value_on, wires, result}
use Rattle.netlist.specs.Counts.{common_xors}
use Rattle.netlist.specs.Calls.{counted_as, counts_call}
use Rattle.netlist.specs.Statements.{Computes, Counted, Sized, ListHolds, TheoremLists, TheoremCounts, TheoremCommon}
use Rattle.gf2.proofs.Counts.{num, sum_mono, count-one}
use Rattle.netlist.proofs.NetlistLaws.{wires-bits}
use Rattle.netlist.proofs.ListLaws.{Gates, Gives, coord-product, ones-at, ones-of, plain-gives, plain-gates, reduced-gives, reduced-gates, common-gives, common-gates}
use Rattle.netlist.proofs.SizeLaws.{plain-sized, reduced-sized, common-sized}
use Rattle.judging.specs.FaultTable.{symmetry_causes}
use Rattle.judging.proofs.CauseLaws.{none-fine}
use Rattle.netlist.proofs.CallLaws.{answer-counted}

module _ (m : ℕ) (table : List ℕ) where
  module _ (list : Netlist) (gives : Gives m table list) where
    output : (a b : List ℕ) → m ≤ 8 * length a → (r : ℕ) → r < m → value_on (wires m list a b) (get_or list.outputs r 0) ≡ coord (product m table a b) r
    output a b fits r l = sym (mod-eq_of_lt (wires-bits m a b list (get_or list.outputs r 0))) ∙ gives a b fits r l ∙ sym (coord-product m table a b fits r l)

    resized : (n : ℕ) (a b : List ℕ) → m ≤ 8 * length a → result n m list a b ≡ from_coords n m (coord (product m table a b))
    unfolding result
    resized n a b fits = from-ext n m _ _ (λ r l. ap (λ x. x % 2) (output a b fits r l))

    pub computes : Computes m table list
    computes = record {
      outputs = output;
      bytes = λ a b fits. resized (length a) a b fits ∙ sym (from-coord {n = length a} {m = m} (unfold product in from-operand (length a) m _));
      resized = resized;
    }

    holds : {x : ℕ} → Gates list (m * m) x → Sized m list → ListHolds m table list x
    holds gates size = record {
      computes = computes;
      counted = record { and_count = gates.ands; xor_count = gates.xors };
      sized = size;
    }

pub theorem_lists : TheoremLists
theorem_lists m table two is s = record {
  of_plain = holds m table (plain m table) (plain-gives m table two is s) (plain-gates m table two is s) (plain-sized m table two is s);
  of_reduced = holds m table (reduced m table) (reduced-gives m table two is s) (reduced-gates m table two is s) (reduced-sized m table two is s);
  of_common = holds m table (common m table) (common-gives m table two is s) (common-gates m table two is s) (common-sized m table two is s);
}

pub theorem_counts : TheoremCounts
theorem_counts m table none =
    let f = (symmetry m table).0 none in
    let lists = theorem_lists m table f.0.least f.0.is_table f.1 in
    record {
      of_plain = counts (plain m table) lists.of_plain.counted;
      of_reduced = counts (reduced m table) lists.of_reduced.counted;
      of_common = counts (common m table) lists.of_common.counted;
    }
  where
    counts : (list : Netlist) {ands xors : ℕ} → Counted list ands xors → counts_call m table list ≡ counted_as ands xors
    counts list h = answer-counted (symmetry_causes m table) _ _ ((none-fine (symmetry_causes m table)).0 none) ∙ ap₂ counted_as h.and_count h.xor_count

module _ (m : ℕ) (table : List ℕ) (two : 2 ≤ m) (is : IsTable m table) (k : Accepted m table) where
  full-row : (d : ℕ) → d < m → all_ones m (row m table d) ≡ true → row m table d ≡ ones (bytes_for m) m
  unfolding ones
  full-row d l e = from-eq (bytes_for m) m (λ i. 1) (is.rows d l) (λ i li. ones-at m table (row m table d) e i li)

  full-test : (d : ℕ) → row m table d ≡ ones (bytes_for m) m → all_ones m (row m table d) ≡ true
  unfolding ones
  full-test d e = ones-of m table _ (λ r l. ap (λ x. coord x r) e ∙ coord-from (bytes_for m) m (λ i. 1) (bytes_fit m) r l)

  few : full_rows m table ≤ 1
  unfolding full_rows
  few = count-one m (λ d. all_ones m (row m table d)) (λ d e ld le p q.
      (theorem_e m table two is).full_row ((theorem_a m table two is).0 k).0 d e ld le (full-row d ld p) (full-row e le q))

  one-row : (d : ℕ) → d < m → row m table d ≡ ones (bytes_for m) m → full_rows m table ≡ 1
  unfolding full_rows
  one-row d l e = omega (arith, few, ap num (full-test d e), sum-next (λ d. num (all_ones m (row m table d))) d, sum_mono (λ d. num (all_ones m (row m table d))) (suc d) m l)

  no_row : ((d : ℕ) → d < m → ¬ (row m table d ≡ ones (bytes_for m) m)) → full_rows m table ≡ 0
  unfolding full_rows
  no_row h = sum-none m _ (λ d l. off d l (all_ones m (row m table d)) refl)
    where
      off : (d : ℕ) → d < m → (x : Bool) → all_ones m (row m table d) ≡ x → num x ≡ 0
      off d l true e = absurd (h d l (full-row d l e))
      off d l false e = refl

  counted : (q x : ℕ) → full_rows m table ≡ q → common_xors m (ones_in m table) q ≡ x → Counted (common m table) (m * m) x
  counted q x e p = record {
    and_count = (common-gates m table two is k.symmetric).ands;
    xor_count = (common-gates m table two is k.symmetric).xors ∙ ap (common_xors m (ones_in m table)) e ∙ p;
  }

pub theorem_common : TheoremCommon
theorem_common m table two is k = record {
  few_rows = few m table two is k;
  with_row = λ d l e. counted m table two is k 1 _ (one-row m table two is k d l e) (ap (λ z. m * (ones_in m table - z) + z - 1) (mul-one m));
  without = λ h. counted m table two is k 0 _ (no_row m table two is k h) refl;
}
