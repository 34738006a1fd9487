-- The proofs of Statements: theorem_accepts, theorem_own_lists.
use Rattle.std.specs.Prelude.{Ok}
use mathlib.Core.Path.{◌≡◌, refl, sym, ap, ◌∙◌}
use mathlib.Core.Bool.{true}
use mathlib.Core.List.{List, [], ◌∷◌}
use Prim.Native.Nat.{ℕ, ◌+◌, ◌*◌, ◌≤◌}
use lib.ListN.{length}
use Rattle.gf2.specs.Sums.{every}
use Rattle.gf2.specs.Operands.{bytes_for}
use Rattle.gf2.proofs.Sums.{every_of}
use Rattle.gf2.proofs.OperandVectors.{bytes_fit}
use Rattle.judging.specs.FaultTable.{symmetry_causes}
use Rattle.judging.proofs.CauseLaws.{none-fine, no-cause}
use Rattle.table.specs.Judgements.{symmetry_verdict}
use Rattle.table.proofs.Theorems.{symmetry}
use Rattle.netlist.specs.Gates.{Netlist, words, and_gates, xor_gates}
use Rattle.netlist.specs.Lists.{plain, reduced, common}
use Rattle.netlist.specs.Running.{gate_count, result}
use Rattle.netlist.specs.Judgements.{is_gate}
use Rattle.netlist.specs.Calls.{counted_as}
use Rattle.netlist.specs.Statements.{Computes}
use Rattle.netlist.proofs.ListLaws.{Sound, plain-sound, reduced-sound, common-sound}
use Rattle.netlist.proofs.WordLaws.{size-words}
use Rattle.netlist.proofs.FormLaws.{Formed, words-formed, plain-formed, reduced-formed, common-formed}
use Rattle.netlist.proofs.CallLaws.{answer-counted}
use Rattle.netlist.proofs.Theorems.{theorem_lists}
use Rattle.runner.specs.Causes.{bad_gates}
use Rattle.runner.proofs.ReadLaws.{read_back_lem, words_count, gate-good, output-good}
use Rattle.runner.proofs.JudgeLaws.{gates-pass}
use Rattle.equivalence.specs.Causes.{most_width, most_gates, accept_causes}
use Rattle.equivalence.specs.Statements.{Comparable, GivesProduct, TheoremAccepts, IsAccepted, TheoremOwnLists}
use Rattle.equivalence.proofs.AcceptLaws.{comparable-ready, accepted-fine, outputs-right, right-product, no-wrong}

pub theorem_accepts : TheoremAccepts
theorem_accepts m table list none c =
    let ready = comparable-ready m list c in (
      λ e. right-product m table list ready (outputs-right m table list ((none-fine (accept_causes m table list)).0 e)),
      λ given. (none-fine (accept_causes m table list)).1 (accepted-fine m list c table ((none-fine (symmetry_causes m table)).0 none) (no-wrong m table list ready given)),
    )

-- the words of a sound list that is of the form and gives the product
module _ (m : ℕ) (table : List ℕ) (list : Netlist) (sound : Sound m list) (formed : Formed m list.gates) where
  abbrev W : List ℕ
  W = words m list

  abbrev g : ℕ
  g = length list.gates

  words-comparable : m ≤ most_width → g ≤ most_gates → Comparable m W
  words-comparable narrow few = record {
    narrow = narrow;
    few = rw (words_count m list) few;
    width = unfold words in refl;
    size = size-words m list sound.size ∙ ap (λ k. 2 + 3 * k + m) (sym (words_count m list));
    wired = (no-cause (bad_gates m W ∷ []) (gates-pass m W gates (every_of m _ (output-good m list sound)), tt)).0;
    formed = λ o. o.2 (words-formed m W (rw (read_back_lem m list sound) formed) o.0 o.1);
  }
    where
      gates : every (gate_count W) (is_gate m W) ≡ true
      gates = ap (λ k. every k (is_gate m W)) (words_count m list) ∙ every_of g _ (gate-good m list sound)

  words_product : Computes m table list → GivesProduct m table W
  words_product h a b oa ob =
      ap (λ l. result (bytes_for m) m l a b) (read_back_lem m list sound) ∙ ap (λ n. result n m list a b) (sym oa.size) ∙ h.bytes a b (rw oa.size (bytes_fit m))

  words-accepted : symmetry_verdict m table ≡ Ok tt → m ≤ most_width → Computes m table list → IsAccepted m table list
  words-accepted none narrow h few =
      answer-counted (accept_causes m table W) _ _ ((none-fine (accept_causes m table W)).0 ((theorem_accepts m table W none (words-comparable narrow few)).1 (words_product h)))
      ∙ ap (λ (l : Netlist). counted_as (and_gates l.gates) (xor_gates l.gates)) (read_back_lem m list sound)

pub theorem_own_lists : TheoremOwnLists
theorem_own_lists m table none narrow =
    let f = (symmetry m table).0 none in
    let two = f.0.least in
    let is = f.0.is_table in
    let lists = theorem_lists m table two is f.1 in
    record {
      of_plain = words-accepted m table (plain m table) (plain-sound m table two is f.1) (plain-formed m table) none narrow lists.of_plain.computes;
      of_reduced = words-accepted m table (reduced m table) (reduced-sound m table two is f.1) (reduced-formed m table) none narrow lists.of_reduced.computes;
      of_common = words-accepted m table (common m table) (common-sound m table two is f.1) (common-formed m table two is f.1) none narrow lists.of_common.computes;
    }
