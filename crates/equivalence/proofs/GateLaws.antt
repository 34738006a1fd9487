-- Laws of a list's gates: the tests of their form as code makes them, the wires of a gate that has passed, and the ANDs among the first.
use mathlib.Core.Path.{◌≡◌, refl, sym, ap₂, ◌∙◌}
use mathlib.Core.Bool.{true, false}
use mathlib.Core.List.{List, [], ◌∷◌}
use Prim.Native.Nat.{ℕ, zero, suc, ◌+◌, ◌-◌, ◌*◌, ◌<◌, ◌≤◌}
use native.Mathlib.Omega.{arith}
use lib.Dec.{eqb, leb}
use borrow.Author.Tests.{ne_eqb, lt-leb, le-leb}
use Rattle.gf2.specs.Sums.{sum}
use Rattle.gf2.proofs.Counts.{num}
use Rattle.gf2.proofs.Sums.{every-at}
use Rattle.netlist.specs.Gates.{and_gates, xor_gates}
use Rattle.netlist.specs.Lists.{each}
use Rattle.netlist.specs.Running.{gate_of, kind_at, left_at, right_at, gate_count, gates_to, read_list}
use Rattle.netlist.specs.Judgements.{is_gate, InForm, is_pair, is_in_form, is_formed}
use Rattle.netlist.proofs.FoldLaws.{and-append, length-single}
use Rattle.netlist.proofs.SizeLaws.{gate-kinds}
use Rattle.netlist.proofs.GateTests.{gate-wires}
use Rattle.netlist.proofs.SetTests.{in-form}
use Rattle.equivalence.specs.Inner.{Ready}

-- the form, by the tests made one after another
module _ (m : ℕ) where
  pub and-this : (kind l r : ℕ) → kind ≡ 0 → is_pair m l r ≡ true → true ≡ is_in_form m kind l r
  unfolding is_in_form
  and-this zero l r e h = rw h
  and-this (suc kind) l r e h = absurd (omega arith)

  pub and-other : (kind l r : ℕ) → kind ≡ 0 → is_pair m l r ≡ false → is_pair m r l ≡ is_in_form m kind l r
  unfolding is_in_form
  and-other zero l r e h = rw h
  and-other (suc kind) l r e h = absurd (omega arith)

  pub xor-input : (kind l r : ℕ) → (kind ≡ 0 → ⊥) → l < 2 * m → false ≡ is_in_form m kind l r
  unfolding is_in_form
  xor-input zero l r n h = absurd (n refl)
  xor-input (suc kind) l r n h = rw (lt-leb (2 * m) l h)

  pub xor-gate : (kind l r : ℕ) → (kind ≡ 0 → ⊥) → 2 * m ≤ l → leb (2 * m) r ≡ is_in_form m kind l r
  unfolding is_in_form
  xor-gate zero l r n h = absurd (n refl)
  xor-gate (suc kind) l r n h = rw (le-leb (2 * m) l h)

-- the wires of a gate by its kind
form-and : (m kind l r : ℕ) → kind ≡ 0 → InForm m kind l r → InForm m 0 l r
form-and m zero l r e f = f
form-and m (suc kind) l r e f = absurd (omega arith)

form-xor : (m kind l r : ℕ) → (kind ≡ 0 → ⊥) → InForm m kind l r → (2 * m ≤ l) × (2 * m ≤ r)
form-xor m zero l r n f = absurd (n refl)
form-xor m (suc kind) l r n f = (omega (arith, f.0), omega (arith, f.1))

module _ {m : ℕ} {list : List ℕ} (ready : Ready m list) {k : ℕ} (l : k < gate_count list) where
  formed : InForm m (kind_at list k) (left_at list k) (right_at list k)
  formed = in-form m _ _ _ (every-at (gate_count list) (is_formed m list) ready.formed k l)

  pub and-formed : kind_at list k ≡ 0 → InForm m 0 (left_at list k) (right_at list k)
  and-formed e = form-and m (kind_at list k) (left_at list k) (right_at list k) e formed

  -- two gates before it
  pub xor-formed : (kind_at list k ≡ 0 → ⊥) → (2 * m ≤ left_at list k) × (2 * m ≤ right_at list k) × (left_at list k - 2 * m < k) × (right_at list k - 2 * m < k)
  xor-formed n =
      let f = form-xor m (kind_at list k) (left_at list k) (right_at list k) n formed in
      let w = gate-wires m list k (every-at (gate_count list) (is_gate m list) ready.gates k l) in
      (f.0, f.1, omega (arith, f.0, w.0), omega (arith, f.1, w.1))

-- one gate more
one-gate : (kind l r : ℕ) → and_gates (gate_of kind l r ∷ []) ≡ num (eqb kind 0)
unfolding and_gates
one-gate zero l r = refl
one-gate (suc kind) l r = rw (ne_eqb (suc kind) 0 (λ e. omega arith))

module _ (list : List ℕ) where
  ands-more : (k : ℕ) → and_gates (gates_to list (suc k)) ≡ and_gates (gates_to list k) + and_gates (gate_of (kind_at list k) (left_at list k) (right_at list k) ∷ [])
  unfolding gates_to each
  ands-more k = and-append (gates_to list k) (gate_of (kind_at list k) (left_at list k) (right_at list k) ∷ [])

  -- the ANDs by the kinds
  pub ands-counted : (g : ℕ) → sum g (λ k. num (eqb (kind_at list k) 0)) ≡ and_gates (gates_to list g)
  unfolding sum
  ands-counted zero = unfold gates_to each and_gates in refl
  ands-counted (suc g) =
      ap₂ ◌+◌ (ands-counted g) (sym (one-gate (kind_at list g) (left_at list g) (right_at list g)))
      ∙ sym (ands-more g)

  -- what the ANDs leave of the gates
  pub xors-left : (m n g : ℕ) → g ≡ gate_count list → n ≡ and_gates (gates_to list (gate_count list)) →
      (n ≡ and_gates (read_list list m).gates) × (g - n ≡ xor_gates (read_list list m).gates)
  unfolding read_list gates_to
  xors-left m n g e h =
      (h, omega (arith, e, h, gate-kinds (gates_to list (gate_count list)), length-single (gate_count list) (λ k. gate_of (kind_at list k) (left_at list k) (right_at list k))))
