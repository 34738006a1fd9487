-- Laws of the runner: tests of every gate and output, the value of a gate on bits, the loop that fills the wires of the gates, and the
-- buffers after a call.
use Rattle.std.specs.Prelude.{Ok, Err, is_ok}
use mathlib.Core.Path.{◌≡◌, refl, sym, ap, ap₂, ◌∙◌}
use mathlib.Core.Bool.{true, false}
use mathlib.Core.List.{List, [], ◌∷◌, ◌++◌, append_assoc}
use Prim.Native.Nat.{ℕ, zero, suc, ◌+◌, ◌*◌, ◌%◌, ◌<◌, ◌≤◌}
use native.Mathlib.Nat.{add-zero}
use native.Mathlib.Numerals.{add-one}
use native.Mathlib.Decide.{dec_lt}
use native.Mathlib.Omega.{arith}
use lib.ListN.{length, get_or, take, drop, set, get_or-append, get_or-eq_default, take-append-drop}
use lib.Seq.{sets, drop-cons, set_at, take_at, length-take-le, get_or-take}
use lib.Dec.{ltb}
use lib.Bits.{bit_and, bit_xor}
use borrow.Author.Tests.{ltb-true, lt-ltb, le-ltb, le-leb, lt-leb}
use Rattle.gf2.specs.Sums.{every}
use Rattle.gf2.specs.Coordinates.{coord, tabulate}
use Rattle.gf2.proofs.Sums.{every-at}
use Rattle.gf2.specs.Operands.{bytes_for, choose, carried_by, from_coords}
use Rattle.gf2.proofs.Coordinates.{length-tabulate, get_d_tabulate}
use Rattle.gf2.proofs.Operands.{from-ext}
use Rattle.gf2.proofs.Carrying.{HasBytes, same-coord}
use Rattle.judging.specs.declared.fault.Fault.{Fault}
use Rattle.judging.specs.Causes.{Verdict}
use Rattle.netlist.specs.Gates.{Gate}
use Rattle.netlist.specs.Lists.{each}
use Rattle.netlist.specs.Running.{applied, gate_value, value_on, run, inputs, wires, result, gate_of, kind_at, left_at, right_at, gate_count, output_at, gates_to, read_list}
use Rattle.netlist.specs.Judgements.{is_gate, is_output}
use Rattle.runner.specs.Calls.{run_bytes_result, run_bytes_wires}
use Rattle.runner.specs.Inner.{AreBits, gate_at, on_output}
use Rattle.netlist.proofs.FoldLaws.{Bits, run_length, run-bits, length-single}
use Rattle.netlist.proofs.NetlistLaws.{length-inputs, inputs-bits}
use Rattle.netlist.proofs.StoreLaws.{sets-append, sets-whole}
use Rattle.netlist.proofs.GateTests.{gate-wires}

module _ (m : ℕ) (list : List ℕ) where
  pub gate-kind : (k x : ℕ) → x ≡ kind_at list k → 1 < x → false ≡ is_gate m list k
  unfolding is_gate
  gate-kind k x e h = rw (← e, lt-leb x 1 h)

  pub gate-left : (k x l : ℕ) → x ≡ kind_at list k → l ≡ left_at list k → x ≤ 1 → 2 * m + k ≤ l → false ≡ is_gate m list k
  unfolding is_gate
  gate-left k x l e f h g = rw (← e, le-leb x 1 h, ← f, le-ltb l (2 * m + k) g)

  pub gate-right : (k x l r : ℕ) → x ≡ kind_at list k → l ≡ left_at list k → r ≡ right_at list k → x ≤ 1 → l < 2 * m + k → ltb r (2 * m + k) ≡ is_gate m list k
  unfolding is_gate
  gate-right k x l r e f d h g = rw (← e, le-leb x 1 h, ← f, lt-ltb l (2 * m + k) g, ← d)

  pub output-not : (r x : ℕ) → x ≡ output_at list r → 2 * m + gate_count list ≤ x → is_output m list r ≡ false
  unfolding is_output
  output-not r x e h = rw (← e) (le-ltb x (2 * m + gate_count list) h)

  pub output-fine : (r x : ℕ) → x ≡ output_at list r → x < 2 * m + gate_count list → is_output m list r ≡ true
  unfolding is_output
  output-fine r x e h = rw (← e) (lt-ltb x (2 * m + gate_count list) h)

  pub output-there : every m (is_output m list) ≡ true → (r : ℕ) → r < m → output_at list r < 2 * m + gate_count list
  unfolding is_output
  output-there e r l = ltb-true _ _ (every-at m (is_output m list) e r l)

-- the value of a gate on bits
pub and-bits : (kind x y : ℕ) → kind ≡ 0 → x < 2 → y < 2 → bit_and x y ≡ applied kind x y
and-bits (suc kind) x y e h l = absurd (omega arith)
and-bits zero zero zero e h l = refl
and-bits zero zero (suc zero) e h l = refl
and-bits zero (suc zero) zero e h l = refl
and-bits zero (suc zero) (suc zero) e h l = refl
and-bits zero (suc (suc x)) y e h l = absurd (omega arith)
and-bits zero zero (suc (suc y)) e h l = absurd (omega arith)
and-bits zero (suc zero) (suc (suc y)) e h l = absurd (omega arith)

pub xor-bits : (kind x y : ℕ) → (kind ≡ 0 → ⊥) → x < 2 → y < 2 → bit_xor x y ≡ applied kind x y
xor-bits zero x y e h l = absurd (e refl)
xor-bits (suc kind) zero zero e h l = refl
xor-bits (suc kind) zero (suc zero) e h l = refl
xor-bits (suc kind) (suc zero) zero e h l = refl
xor-bits (suc kind) (suc zero) (suc zero) e h l = refl
xor-bits (suc kind) (suc (suc x)) y e h l = absurd (omega arith)
xor-bits (suc kind) zero (suc (suc y)) e h l = absurd (omega arith)
xor-bits (suc kind) (suc zero) (suc (suc y)) e h l = absurd (omega arith)

applied-gate : (v : ℕ → ℕ) (kind l r : ℕ) → applied kind (v l) (v r) ≡ gate_value v (gate_of kind l r)
applied-gate v zero l r = refl
applied-gate v (suc kind) l r = refl

run-snoc : (gs : List Gate) (g : Gate) (w : List ℕ) → run (gs ++ (g ∷ [])) w ≡ run gs w ++ (gate_value (value_on (run gs w)) g ∷ [])
unfolding run
run-snoc [] g w = refl
run-snoc (h ∷ gs) g w = run-snoc gs g (w ++ (gate_value (value_on w) h ∷ []))

-- the loop over the gates: the wires of the first k gates are filled
module _ (m : ℕ) (list w : List ℕ) where
  unfoldable pub ran_to : ℕ → List ℕ
  ran_to k = run (gates_to list k) (take (2 * m) w)

  unfoldable pub filled_to : ℕ → List ℕ
  filled_to k = ran_to k ++ drop (2 * m + k) w

  module _ (fits : 2 * m ≤ length w) (b : AreBits (2 * m) w) where
    length-ran : (k : ℕ) → length (ran_to k) ≡ 2 * m + k
    unfolding ran_to gates_to
    length-ran k = run_length _ _ ∙ ap₂ ◌+◌ (length-take-le (2 * m) w fits) (length-single k _)

    bits-start : Bits (take (2 * m) w)
    bits-start k = elim (dec_lt k (2 * m)) [
      | yes l ↦ rw (get_or-take (2 * m) w k 0 l) (b.bit k l)
      | no l ↦ rw (get_or-eq_default (take (2 * m) w) 0 {n = k} (omega (arith, length-take-le (2 * m) w fits))) (omega arith)
    ]

    pub filled-start : w ≡ filled_to 0
    unfolding filled_to ran_to gates_to each run
    filled-start = sym (ap (λ k. take (2 * m) w ++ drop k w) (add-zero (2 * m)) ∙ take-append-drop (2 * m) w)

    filled-read : (k l : ℕ) → l < 2 * m + k → value_on (filled_to k) l ≡ value_on (ran_to k) l
    unfolding filled_to
    filled-read k l h = get_or-append (ran_to k) _ 0 l (rw (length-ran k) h)

    pub filled-bits : (k : ℕ) → AreBits (2 * m + k) (filled_to k)
    filled-bits k = record { bit = λ l h. rw (filled-read k l h) (unfold ran_to in run-bits (gates_to list k) (take (2 * m) w) bits-start l) }

    -- one gate more
    pub filled_more : (k : ℕ) → 2 * m + k < length w → is_gate m list k ≡ true → (x : ℕ) → x ≡ gate_at list k (filled_to k) → set (filled_to k) (2 * m + k) x ≡ filled_to (k + 1)
    unfolding filled_to ran_to
    filled_more k h good x e =
        let l = gate-wires m list k good in
        ap (set (filled_to k) (2 * m + k)) (e ∙ ap₂ (applied (kind_at list k)) (filled-read k (left_at list k) l.0) (filled-read k (right_at list k) l.1) ∙ applied-gate (value_on (ran_to k)) (kind_at list k) (left_at list k) (right_at list k))
        ∙ place ∙ ap₂ ◌++◌ (sym next) (ap (λ z. drop z w) there)
      where
        y : ℕ
        y = gate_value (value_on (ran_to k)) (gate_of (kind_at list k) (left_at list k) (right_at list k))

        there : suc (2 * m + k) ≡ 2 * m + (k + 1)
        there = omega arith

        next : ran_to (k + 1) ≡ ran_to k ++ (y ∷ [])
        next = unfold ran_to gates_to each in rw add-one (run-snoc _ (gate_of (kind_at list k) (left_at list k) (right_at list k)) (take (2 * m) w))

        place : set (filled_to k) (2 * m + k) y ≡ (ran_to k ++ (y ∷ [])) ++ drop (suc (2 * m + k)) w
        place = unfold filled_to in
            ap (λ z. set (ran_to k ++ z) (2 * m + k) y) (drop-cons w (2 * m + k) 0 h)
            ∙ set_at (ran_to k) (get_or w (2 * m + k) 0) (drop (suc (2 * m + k)) w) y (2 * m + k) (length-ran k)
            ∙ sym (append_assoc (ran_to k) (y ∷ []) (drop (suc (2 * m + k)) w))

-- the wires after both operands are stored
module _ (m : ℕ) (a b w : List ℕ) (fits : 2 * m ≤ length w) where
  abbrev pub with_inputs : List ℕ
  with_inputs = sets (sets w 0 (tabulate m (coord a))) m (tabulate m (coord b))

  stored-inputs : with_inputs ≡ inputs m a b ++ drop (2 * m) w
  unfolding inputs
  stored-inputs =
      ap (λ k. sets (sets w 0 (tabulate m (coord a))) k (tabulate m (coord b))) (sym (length-tabulate m (coord a)) ∙ omega arith)
      ∙ sym (sets-append w 0 (tabulate m (coord a)) (tabulate m (coord b)))
      ∙ sets-whole w (tabulate m (coord a) ++ tabulate m (coord b)) (rw size fits) ∙ ap (λ k. (tabulate m (coord a) ++ tabulate m (coord b)) ++ drop k w) size
    where
      size : length (tabulate m (coord a) ++ tabulate m (coord b)) ≡ 2 * m
      size = unfold inputs in length-inputs m a b

  pub take-inputs : take (2 * m) with_inputs ≡ inputs m a b
  take-inputs = ap (take (2 * m)) stored-inputs ∙ take_at (inputs m a b) (drop (2 * m) w) (2 * m) (length-inputs m a b)

  pub bits-inputs : AreBits (2 * m) with_inputs
  bits-inputs = record { bit = λ k l. rw (sym (get_or-take (2 * m) with_inputs k 0 l) ∙ ap (λ z. value_on z k) take-inputs) (inputs-bits m a b k) }

  pub wires-filled : (list w' out : List ℕ) (g : ℕ) → w' ≡ with_inputs → out ≡ run (gates_to list g) (take (2 * m) w') → g ≡ gate_count list → out ≡ wires m (read_list list m) a b
  unfolding wires read_list
  wires-filled list w' out g e h k = h ∙ ap₂ (λ n z. run (gates_to list n) z) k (ap (take (2 * m)) e ∙ take-inputs)

-- the result of words that are run
result-read : (n m : ℕ) (list a b : List ℕ) →
    from_coords n m (on_output (wires m (read_list list m) a b) list) ≡ result n m (read_list list m) a b
unfolding result
result-read n m list a b = from-ext n m _ _ (λ r l. ap (λ w. value_on (wires m (read_list list m) a b) w % 2) (sym (unfold read_list in get_d_tabulate m (output_at list) r l)))

-- the buffers after a call: with a fault, and without
module _ (m : ℕ) (list a b old : List ℕ) where
  module _ {v : Verdict} {f : Fault} (some : v ≡ Err f) where
    pub kept_result : old ≡ run_bytes_result v m list a b old
    kept_result = rw some

    pub kept-wires : old ≡ run_bytes_wires v m list a b old
    kept-wires = rw some

  pub ran-result : {w z : List ℕ} → w ≡ wires m (read_list list m) a b → z ≡ from_coords (bytes_for m) m (on_output w list) → z ≡ run_bytes_result (Ok tt) m list a b old
  ran-result e h = h ∙ ap (λ v. from_coords (bytes_for m) m (on_output v list)) e ∙ result-read (bytes_for m) m list a b

-- running looks at coordinates alone: operands of W bytes may be carried
module _ {m : ℕ} {a b x y : List ℕ} (h : HasBytes m a) (k : HasBytes m b) (ex : x ≡ carried_by a) (ey : y ≡ carried_by b) (v : Verdict) (list old : List ℕ) where
  wires-carried : wires m (read_list list m) x y ≡ wires m (read_list list m) a b
  unfolding wires inputs
  wires-carried = ap₂ (λ f g. run (read_list list m).gates (tabulate m f ++ tabulate m g)) (ap coord ex ∙ same-coord h) (ap coord ey ∙ same-coord k)

  pub bytes-wires : {z : List ℕ} → z ≡ run_bytes_wires v m list x y old → z ≡ run_bytes_wires v m list a b old
  bytes-wires e = e ∙ ap (λ w. choose (is_ok v) w old) wires-carried

  pub bytes-result : {z : List ℕ} → z ≡ run_bytes_result v m list x y old → z ≡ run_bytes_result v m list a b old
  unfolding result
  bytes-result e = e ∙ ap (λ w. choose (is_ok v) (from_coords (bytes_for m) m (λ r. value_on w (get_or (read_list list m).outputs r 0))) old) wires-carried
