-- The words of a list: they are read back as the list, and those of a sound one are given no fault.
use Rattle.std.specs.Prelude.{Ok}
use mathlib.Core.Path.{◌≡◌, refl, sym, ap, ap₂, ◌∙◌, fun_ext}
use mathlib.Core.Bool.{true}
use mathlib.Core.List.{List, [], ◌∷◌, ◌++◌, append_assoc, append-nil}
use Prim.Native.Nat.{ℕ, zero, suc, ◌+◌, ◌*◌, ◌<◌, ◌≤◌}
use native.Mathlib.Omega.{arith}
use lib.ListN.{length, get_or}
use lib.Seq.{get_or-append-add, ext_get_or}
use borrow.Author.Tests.{lt-ltb, le-ltb, le-leb}
use Rattle.gf2.specs.Sums.{every}
use Rattle.gf2.specs.Coordinates.{tabulate}
use Rattle.gf2.specs.Operands.{bytes_for, carried_bytes, IsOperand}
use Rattle.gf2.proofs.Sums.{every_of}
use Rattle.gf2.proofs.Coordinates.{length-tabulate, get_d_tabulate}
use Rattle.operand.specs.declared.Operand.{Operand}
use Rattle.judging.specs.Causes.{judged}
use Rattle.judging.specs.FaultTable.{bad_width, not_w}
use Rattle.judging.proofs.CauseLaws.{Fine, none-given}
use Rattle.judging.proofs.Searches.{fine-append}
use Rattle.judging.proofs.Passed.{IsWidth, width-passes, length-passes, operand-passes}
use Rattle.netlist.specs.Gates.{Gate, AND, XOR, Netlist, gate_words, words}
use Rattle.netlist.specs.Lists.{each}
use Rattle.netlist.specs.Running.{gate_of, kind_at, left_at, right_at, gate_count, output_at, gates_to, read_list}
use Rattle.netlist.specs.Judgements.{is_gate, is_output}
use Rattle.netlist.proofs.FoldLaws.{Earlier, below_at}
use Rattle.netlist.proofs.ListLaws.{Sound}
use Rattle.netlist.proofs.WordLaws.{length-words, size-words}
use Rattle.runner.specs.Causes.{run_causes, run_bytes_causes}
use Rattle.runner.specs.Inner.{length_causes, carried_causes, bit_causes, list_causes}
use Rattle.runner.specs.Statements.{Runs}
use Rattle.runner.proofs.JudgeLaws.{gates-pass}

each_first : {A : Type 0} (n : ℕ) (f : ℕ → List A) → each (suc n) f ≡ f 0 ++ each n (λ i. f (suc i))
unfolding each
each_first zero f = sym (append-nil (f 0))
each_first (suc n) f = rw (each_first n f, append_assoc)

later : (a b c : ℕ) (x : List ℕ) (j k : ℕ) → j ≡ suc (suc (suc k)) → get_or (a ∷ b ∷ c ∷ x) j 0 ≡ get_or x k 0
later a b c x j k e = rw e

-- gate k of gates that stand before other words
module _ (rest : List ℕ) where
  abbrev body : List Gate → List ℕ
  body gs = gate_words gs ++ rest

  abbrev gate_at : List ℕ → ℕ → Gate
  gate_at w k = gate_of (get_or w (3 * k) 0) (get_or w (3 * k + 1) 0) (get_or w (3 * k + 2) 0)

  next-gate : (a b c i : ℕ) (x : List ℕ) → gate_at (a ∷ b ∷ c ∷ x) (suc i) ≡ gate_at x i
  next-gate a b c i x =
      ap (λ z. gate_of z (get_or (a ∷ b ∷ c ∷ x) (3 * suc i + 1) 0) (get_or (a ∷ b ∷ c ∷ x) (3 * suc i + 2) 0)) (later a b c x (3 * suc i) (3 * i) (omega arith))
      ∙ ap₂ (gate_of (get_or x (3 * i) 0)) (later a b c x (3 * suc i + 1) (3 * i + 1) (omega arith)) (later a b c x (3 * suc i + 2) (3 * i + 2) (omega arith))

  gates-back : (gs : List Gate) → each (length gs) (λ k. gate_at (body gs) k ∷ []) ≡ gs
  unfolding gate_words
  gates-back [] = unfold each in refl
  gates-back (AND l r ∷ gs) = each_first (length gs) _ ∙ ap (λ z. AND l r ∷ z) (ap (each (length gs)) (fun_ext (λ i. ap (λ z. z ∷ []) (next-gate 0 l r i (body gs)))) ∙ gates-back gs)
  gates-back (XOR l r ∷ gs) = each_first (length gs) _ ∙ ap (λ z. XOR l r ∷ z) (ap (each (length gs)) (fun_ext (λ i. ap (λ z. z ∷ []) (next-gate 1 l r i (body gs)))) ∙ gates-back gs)

  -- what the runner asks of gate k
  record Good (n : ℕ) (w : List ℕ) (k : ℕ) : Type 0 where
    kind : get_or w (3 * k) 0 ≤ 1
    left : get_or w (3 * k + 1) 0 < n + k
    right : get_or w (3 * k + 2) 0 < n + k

  next-good : (n a b c k : ℕ) (x : List ℕ) → Good (suc n) x k → Good n (a ∷ b ∷ c ∷ x) (suc k)
  next-good n a b c k x g = record {
    kind = rw (later a b c x (3 * suc k) (3 * k) (omega arith)) g.kind;
    left = rw (later a b c x (3 * suc k + 1) (3 * k + 1) (omega arith)) (omega (arith, g.left));
    right = rw (later a b c x (3 * suc k + 2) (3 * k + 2) (omega arith)) (omega (arith, g.right));
  }

  gates-good : (n : ℕ) (gs : List Gate) (k : ℕ) → Earlier n gs → k < length gs → Good n (body gs) k
  unfolding gate_words Earlier
  gates-good n [] k e h = absurd (omega arith)
  gates-good n (AND l r ∷ gs) zero e h = record { kind = omega arith; left = omega (arith, e.0.0); right = omega (arith, e.0.1) }
  gates-good n (XOR l r ∷ gs) zero e h = record { kind = omega arith; left = omega (arith, e.0.0); right = omega (arith, e.0.1) }
  gates-good n (AND l r ∷ gs) (suc k) e h = next-good n 0 l r k (body gs) (gates-good (suc n) gs k e.1 (omega arith))
  gates-good n (XOR l r ∷ gs) (suc k) e h = next-good n 1 l r k (body gs) (gates-good (suc n) gs k e.1 (omega arith))

module _ (m : ℕ) (list : Netlist) where
  abbrev W : List ℕ
  W = words m list

  abbrev g : ℕ
  g = length list.gates

  shift : (j k : ℕ) → j ≡ suc (suc k) → get_or W j 0 ≡ get_or (body list.outputs list.gates) k 0
  unfolding words
  shift j k e = rw e

  pub words_count : gate_count W ≡ g
  unfolding words
  words_count = refl

  words-gates : gates_to W g ≡ list.gates
  unfolding gates_to
  words-gates = ap (each g) (fun_ext (λ k. ap (λ z. z ∷ []) (gate k))) ∙ gates-back list.outputs list.gates
    where
      gate : (k : ℕ) → gate_of (kind_at W k) (left_at W k) (right_at W k) ≡ gate_at list.outputs (body list.outputs list.gates) k
      gate k = rw (shift (2 + 3 * k) (3 * k) (omega arith), shift (2 + 3 * k + 1) (3 * k + 1) (omega arith), shift (2 + 3 * k + 2) (3 * k + 2) (omega arith))

  words-output : (r : ℕ) → output_at W r ≡ get_or list.outputs r 0
  words-output r =
      ap (λ k. get_or W (2 + 3 * k + r) 0) words_count ∙ shift (2 + 3 * g + r) (length (gate_words list.gates) + r) (omega (arith, length-words list.gates))
      ∙ get_or-append-add (gate_words list.gates) list.outputs r 0

  module _ (sound : Sound m list) where
    pub read_back_lem : read_list W m ≡ list
    unfolding read_list
    read_back_lem = ap₂ (λ x y. record { gates = x; outputs = y }) (ap (gates_to W) words_count ∙ words-gates)
        (ext_get_or 0 (tabulate m (output_at W)) list.outputs (length-tabulate m (output_at W) ∙ sym sound.size) (λ r l.
        get_d_tabulate m (output_at W) r (omega (arith, length-tabulate m (output_at W))) ∙ words-output r))

    pub gate-good : (k : ℕ) → k < g → is_gate m W k ≡ true
    unfolding is_gate
    gate-good k l = let x = gates-good list.outputs (2 * m) list.gates k sound.earlier l in
        rw (
          shift (2 + 3 * k) (3 * k) (omega arith),
          shift (2 + 3 * k + 1) (3 * k + 1) (omega arith),
          shift (2 + 3 * k + 2) (3 * k + 2) (omega arith),
          le-leb _ 1 x.kind,
          lt-ltb _ (2 * m + k) x.left,
          lt-ltb _ (2 * m + k) x.right,
        )

    pub output-good : (r : ℕ) → r < m → is_output m W r ≡ true
    unfolding is_output
    output-good r l = rw (words-output r, words_count) (lt-ltb _ (2 * m + g) (below_at _ list.outputs r sound.present (omega (arith, sound.size))))

    -- what is judged after the sizes of operands and result
    list-good : (a b : List ℕ) {n size : ℕ} → IsOperand n m a → IsOperand n m b → size ≡ 2 * m + g → Fine (list_causes m W a b size)
    list-good a b {size = size} oa ob e =
        let gates = gates-pass m W (ap (λ k. every k (is_gate m W)) words_count ∙ every_of g (is_gate m W) gate-good) (every_of m (is_output m W) output-good) in
        let bits : Fine (bit_causes m W a b) = (operand-passes m a oa, (operand-passes m b ob, (gates, tt))) in
        let all = length-passes (length W) (2 + 3 * gate_count W + m) (size-words m list sound.size ∙ ap (λ k. 2 + 3 * k + m) (sym words_count)) in
        let lent = length-passes size (2 * m + gate_count W) (e ∙ ap (λ k. 2 * m + k) (sym words_count)) in
        (le-ltb (length W) 2 (omega (arith, size-words m list sound.size)), (length-passes (get_or W 0 0) m (unfold words in refl), (all, (lent, bits))))

    module _ (w : IsWidth m) where
      carried-good : (a b : Operand) → a.width ≡ m → b.width ≡ m → IsOperand carried_bytes m a.bytes → IsOperand carried_bytes m b.bytes → judged (run_causes m W a b (bytes_for m) (2 * m + g)) ≡ Ok tt
      carried-good a b wa wb oa ob =
          let lengths : Fine (length_causes a.width m b.width m (bytes_for m) (bytes_for m)) = (length-passes a.width m wa, (length-passes b.width m wb, (length-passes (bytes_for m) (bytes_for m) refl, tt))) in
          none-given (run_causes m W a b (bytes_for m) (2 * m + g))
          (fine-append (carried_causes m a b (bytes_for m)) (list_causes m W a.bytes b.bytes (2 * m + g))
          (width-passes m w, (rw wa (width-passes m w), (rw wb (width-passes m w), lengths))) (list-good a.bytes b.bytes oa ob refl))

      bytes_good : (a b old lent : List ℕ) → IsOperand (bytes_for m) m a → IsOperand (bytes_for m) m b → length old ≡ bytes_for m → length lent ≡ 2 * m + g → judged (run_bytes_causes m W a b old lent) ≡ Ok tt
      bytes_good a b old lent oa ob room size =
          let lengths : Fine (not_w m a ∷ not_w m b ∷ not_w m old ∷ []) = (length-passes (length a) (bytes_for m) oa.size, (length-passes (length b) (bytes_for m) ob.size, (length-passes (length old) (bytes_for m) room, tt))) in
          none-given (run_bytes_causes m W a b old lent)
          (fine-append (bad_width m ∷ not_w m a ∷ not_w m b ∷ not_w m old ∷ []) (list_causes m W a b (length lent)) (width-passes m w, lengths) (list-good a b oa ob size))

    pub words-run : 2 ≤ m → Runs m list
    words-run two = record {
      read_back = read_back_lem;
      no_fault = λ great. carried-good (record { least = two; greatest = great });
      no_bytes_fault = λ great. bytes_good (record { least = two; greatest = great });
    }
