-- Laws of accepting a list.
-- Causes: what a list is that can be compared, and what is judged of it.
-- Operands: the products of two basis operands, and of one that is zero.
-- Right: a list whose outputs have the right products gives the product.
-- Given: a list that gives the product of all operands has no wrong output; basis operands tell its products.
use Rattle.std.specs.Prelude.{Ok}
use mathlib.Core.Path.{◌≡◌, refl, sym, ap, ap₂, ◌∙◌}
use mathlib.Core.Logic.{inl, inr}
use mathlib.Core.Bool.{true, false}
use mathlib.Core.List.{List, [], ◌∷◌, ◌++◌}
use Prim.Native.Nat.{ℕ, ◌+◌, ◌-◌, ◌*◌, ◌%◌, ◌<◌, ◌≤◌}
use native.Mathlib.Nat.{mod-mod, mod-eq_of_lt}
use native.Mathlib.Decide.{ℕ_discrete, dec_lt}
use native.Mathlib.Omega.{arith}
use lib.ListN.{length, get_or}
use lib.Dec.{eqb}
use borrow.Author.Tests.{le-ltb, ltb-false, eq-eqb, ne_eqb}
use Rattle.gf2.specs.Sums.{every}
use Rattle.gf2.specs.Coordinates.{coord}
use Rattle.gf2.specs.Operands.{bytes_for, zeroes}
use Rattle.gf2.specs.Tables.{basis}
use Rattle.gf2.specs.Field.{Op}
use Rattle.gf2.proofs.Sums.{sum-none}
use Rattle.gf2.proofs.Counts.{num}
use Rattle.gf2.proofs.Parity.{and_both}
use Rattle.gf2.proofs.Coordinates.{coord-lt, get_d_tabulate}
use Rattle.gf2.proofs.Operands.{coord-from, from-operand}
use Rattle.gf2.proofs.OperandVectors.{bytes_fit}
use Rattle.judging.specs.Causes.{Cause}
use Rattle.judging.specs.FaultTable.{symmetry_causes}
use Rattle.judging.proofs.CauseLaws.{Fine, fine, none-fine, exact}
use Rattle.judging.proofs.Searches.{fine-append, fine-parts, fine-from, fine-at}
use Rattle.judging.proofs.Passed.{not-not, length-passes}
use Rattle.table.proofs.BasisOperands.{basis-operand}
use Rattle.netlist.specs.Gates.{Netlist, and_gates, xor_gates}
use Rattle.netlist.specs.Running.{value_on, wires, result, gate_of, kind_at, left_at, right_at, gate_count, output_at, gates_to, read_list}
use Rattle.netlist.specs.Judgements.{IsA, IsB, IsInput, is_gate, is_output, is_formed}
use Rattle.netlist.specs.Sets.{Products, set_on, wanted, SameProducts, IsWrongOutput, is_right_output}
use Rattle.netlist.proofs.FoldLaws.{length-single}
use Rattle.netlist.proofs.NetlistLaws.{wires-a, wires-b, wires-bits}
use Rattle.netlist.proofs.ListLaws.{Gives, coord-product, wanted-products}
use Rattle.netlist.proofs.SizeLaws.{gate-kinds, coord-basis}
use Rattle.netlist.proofs.SetTests.{right-output}
use Rattle.netlist.proofs.SetLaws.{pair-point, sum_of, sum_same, set-bit, wire-value}
use Rattle.netlist.proofs.Theorems.{computes}
use Rattle.runner.specs.Causes.{bad_gates}
use Rattle.runner.proofs.RunLaws.{output-there}
use Rattle.equivalence.specs.Causes.{most_width, most_gates, other_gates, wrong_output, table_causes, limit_causes, gate_causes, output_causes, accept_causes}
use Rattle.equivalence.specs.Calls.{accept_verdict}
use Rattle.equivalence.specs.Inner.{Ready}
use Rattle.equivalence.specs.Statements.{Comparable, GivesProduct}

-- Causes
unheld : (c : Cause) → ¬ c.Holds → c.test ≡ false
unheld c n = ((none-fine (c ∷ [])).0 ((exact (c ∷ [])).none.1 (n, tt))).0

-- the causes of limits, gates and outputs, which follow those of the table
abbrev after_table : ℕ → List ℕ → List ℕ → List Cause
after_table m table list = limit_causes m list ++ (gate_causes m list ++ output_causes m table list)

-- a list of which 18, 19 and 20 were not given
pub list-ready : (m : ℕ) (list : List ℕ) → Fine (limit_causes m list) → Fine (gate_causes m list) → Ready m list
list-ready m list p q =
    let g = and_both (every (gate_count list) (is_gate m list)) (every m (is_output m list)) (not-not _ q.0) in
    record {
      narrow = ltb-false most_width m p.0;
      few = ltb-false most_gates (gate_count list) p.1.0;
      gates = g.0;
      outputs = g.1;
      formed = not-not (every (gate_count list) (is_formed m list)) q.1.0;
    }

pub outputs-right : (m : ℕ) (table list : List ℕ) → Fine (accept_causes m table list) → (r : ℕ) → r < m → is_right_output m table list r ≡ true
outputs-right m table list p r l =
    let q = (fine-parts (table_causes m table) (after_table m table list) p.1.1.1.1.1).1 in
    not-not _ (fine-at (λ r. wrong_output m table list r ∷ []) 0 m q.1.1.1.1 r (omega arith) (omega arith)).0

-- the counts of a list that is accepted
pub counts-few : (m : ℕ) (table list : List ℕ) → accept_verdict m table list ≡ Ok tt → and_gates (read_list list m).gates + xor_gates (read_list list m).gates ≤ most_gates
unfolding read_list gates_to
counts-few m table list n =
    let p = fine (accept_causes m table list) n in
    let q = (fine-parts (table_causes m table) (after_table m table list) p.1.1.1.1.1).1 in
    omega (
      arith,
      ltb-false most_gates (gate_count list) q.1.0,
      gate-kinds (gates_to list (gate_count list)),
      length-single (gate_count list) (λ k. gate_of (kind_at list k) (left_at list k) (right_at list k)),
    )

module _ (m : ℕ) (list : List ℕ) (c : Comparable m list) where
  limits : Fine (limit_causes m list)
  limits = (le-ltb most_width m c.narrow, (le-ltb most_gates (gate_count list) c.few, tt))

  gates : Fine (gate_causes m list)
  gates = (unheld (bad_gates m list) c.wired, (unheld (other_gates m list) c.formed, tt))

  pub comparable-ready : Ready m list
  comparable-ready = list-ready m list limits gates

  pub accepted-fine : (table : List ℕ) → Fine (symmetry_causes m table) → ((r : ℕ) → r < m → (wrong_output m table list r).test ≡ false) → Fine (accept_causes m table list)
  accepted-fine table p right =
      let outputs : Fine (output_causes m table list) = fine-from (λ r. wrong_output m table list r ∷ []) 0 m (λ r l h. (right r (omega arith), tt)) in
      let after = fine-append (limit_causes m list) (gate_causes m list ++ output_causes m table list) limits (fine-append (gate_causes m list) (output_causes m table list) gates outputs) in
      let all = fine-append (table_causes m table) (after_table m table list) p.1.1 after in
      (p.0, (p.1.0, (le-ltb (length list) 2 (omega (arith, c.size)), (length-passes _ m c.width, (length-passes _ _ c.size, all)))))

-- Operands
module _ (m : ℕ) where
  clear-sum : (a b : List ℕ) (s : Products) → ((i j : ℕ) → i < m → j < m → coord a i * coord b j ≡ 0) → sum_of m a b s ≡ 0
  clear-sum a b s h = sum-none m _ (λ i li. sum-none m _ (λ j lj. ap (λ x. s i j * x) (h i j li lj) ∙ omega arith))

  basis-one : (i : ℕ) → i < m → coord (basis m i) i ≡ 1
  basis-one i l = coord-basis m i i l ∙ ap num (eq-eqb i i refl)

  -- the products of two basis operands
  basis-sum : (i j : ℕ) → i < m → j < m → (s : Products) → sum_of m (basis m i) (basis m j) s ≡ s i j
  basis-sum i j li lj s =
      pair-point m i j _ li lj (λ k l lk ll n. ap₂ (λ x y. s k l * (x * y)) (coord-basis m i k lk) (coord-basis m j l ll) ∙ other k l n)
      ∙ ap₂ (λ x y. s i j * (x * y)) (basis-one i li) (basis-one j lj) ∙ omega arith
    where
      other : (k l : ℕ) → ¬ ((k ≡ i) × (l ≡ j)) → s k l * (num (eqb k i) * num (eqb l j)) ≡ 0
      other k l n = elim (ℕ_discrete k i) [
        | yes e ↦ rw (ne_eqb l j (λ q. n (e, q))) (omega arith)
        | no ne ↦ rw (ne_eqb k i ne) (omega arith)
      ]

  zero-operand : Op m (zeroes (bytes_for m) m)
  unfolding zeroes
  zero-operand = from-operand (bytes_for m) m _

  zero-coord : (i : ℕ) → i < m → coord (zeroes (bytes_for m) m) i ≡ 0
  unfolding zeroes
  zero-coord i l = coord-from (bytes_for m) m _ (bytes_fit m) i l

module _ (m : ℕ) (table list : List ℕ) (ready : Ready m list) where
  abbrev L : Netlist
  L = read_list list m

  output-wire : (r : ℕ) → r < m → get_or L.outputs r 0 ≡ output_at list r
  unfolding read_list
  output-wire r l = get_d_tabulate m (output_at list) r l

  output-value : (a b : List ℕ) (r : ℕ) → r < m → 2 * m ≤ output_at list r → value_on (wires m L a b) (output_at list r) ≡ sum_of m a b (set_on m L (output_at list r)) % 2
  output-value a b r l g = wire-value m list a b ready.gates ready.formed (output_at list r) g (output-there m list ready.outputs r l)

  -- Right
  module _ (right : (r : ℕ) → r < m → is_right_output m table list r ≡ true) where
    right-gives : Gives m table L
    right-gives a b fits r l =
        let q = right-output m table list r (right r l) in
        ap (λ w. value_on (wires m L a b) w % 2) (output-wire r l) ∙ ap (λ x. x % 2) (output-value a b r l q.0) ∙ mod-mod _ 2
        ∙ ap (λ x. x % 2) (sum_same m a b _ _ q.1 ∙ wanted-products m table a b r)

    pub right-product : GivesProduct m table list
    right-product a b oa ob = ap (λ n. result n m L a b) (sym oa.size) ∙ (computes m table L right-gives).bytes a b (rw oa.size (bytes_fit m))

  -- Given
  module _ (given : GivesProduct m table list) (r : ℕ) (l : r < m) where
    abbrev w : ℕ
    w = output_at list r

    given-value : (a b : List ℕ) → Op m a → Op m b → value_on (wires m L a b) w ≡ sum_of m a b (wanted m table r) % 2
    unfolding result
    given-value a b oa ob =
        sym (mod-eq_of_lt (wires-bits m a b L w)) ∙ ap (λ k. value_on (wires m L a b) k % 2) (sym (output-wire r l))
        ∙ sym (coord-from (bytes_for m) m _ (bytes_fit m) r l) ∙ ap (λ x. coord x r) (given a b oa ob)
        ∙ coord-product m table a b (rw oa.size (bytes_fit m)) r l ∙ ap (λ x. x % 2) (sym (wanted-products m table a b r))

    same-products : 2 * m ≤ w → SameProducts m (set_on m L w) (wanted m table r)
    same-products g i j li lj =
        sym (mod-eq_of_lt (set-bit m list ready.gates w g (output-there m list ready.outputs r l) i j)) ∙ ap (λ x. x % 2) (sym (basis-sum m i j li lj (set_on m L w)))
        ∙ sym (output-value (basis m i) (basis m j) r l g) ∙ given-value (basis m i) (basis m j) (basis-operand m i) (basis-operand m j)
        ∙ ap (λ x. x % 2) (basis-sum m i j li lj (wanted m table r)) ∙ mod-eq_of_lt (coord-lt _ r)

    -- operands whose products are all 0
    not-one : (a b : List ℕ) → Op m a → Op m b → ((i j : ℕ) → i < m → j < m → coord a i * coord b j ≡ 0) → ¬ (value_on (wires m L a b) w ≡ 1)
    not-one a b oa ob none e = omega (arith, e, given-value a b oa ob, clear-sum m a b (wanted m table r) none)

    not_a : ¬ IsA m w
    not_a q = not-one (basis m w) (zeroes (bytes_for m) m) (basis-operand m w) (zero-operand m)
        (λ i j li lj. ap (λ x. coord (basis m w) i * x) (zero-coord m j lj) ∙ omega arith)
        (wires-a m (basis m w) (zeroes (bytes_for m) m) L w q ∙ basis-one m w q)

    not-b : ¬ IsB m w
    not-b q = not-one (zeroes (bytes_for m) m) (basis m (w - m)) (zero-operand m) (basis-operand m (w - m))
        (λ i j li lj. ap (λ x. x * coord (basis m (w - m)) j) (zero-coord m i li) ∙ omega arith)
        (ap (value_on (wires m L (zeroes (bytes_for m) m) (basis m (w - m)))) there ∙ wires-b m (zeroes (bytes_for m) m) (basis m (w - m)) L (w - m) below ∙ basis-one m (w - m) below)
      where
        there : w ≡ m + (w - m)
        there = omega arith

        below : w - m < m
        below = omega arith

    not-input : ¬ IsInput m w
    not-input h = elim (dec_lt w m) [
      | yes q ↦ not_a q
      | no q ↦ not-b (omega arith, h)
    ]

    pub no-wrong : (wrong_output m table list r).test ≡ false
    no-wrong = unheld (wrong_output m table list r) go
      where
        go : ¬ IsWrongOutput m table list r
        go (inl h) = not-input h
        go (inr n) = n (same-products (omega (arith, not-input)))
