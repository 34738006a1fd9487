-- Laws of what running judges: the fault of gates, what holds where no fault is given, and operands of W bytes judged as carried.
use Rattle.std.specs.Prelude.{Ok, Err}
use mathlib.Core.Path.{◌≡◌, refl, sym, ap₂, ◌∙◌}
use mathlib.Core.Bool.{true, false, and-false}
use mathlib.Core.List.{List, [], ◌∷◌, ◌++◌}
use Prim.Native.Nat.{ℕ, ◌+◌, ◌*◌}
use Rattle.gf2.specs.Sums.{every}
use Rattle.gf2.specs.Operands.{carried_by}
use Rattle.gf2.proofs.Parity.{and_both}
use Rattle.gf2.proofs.Carrying.{HasBytes}
use Rattle.judging.specs.declared.fault.Fault.TheVariants.{Call}
use Rattle.judging.specs.declared.fault.CallFault.TheVariants.{BadGate}
use Rattle.judging.specs.Causes.{Cause, judged}
use Rattle.judging.specs.FaultTable.{high_bit}
use Rattle.judging.proofs.CauseLaws.{head-holds, same_head, none-given, fine}
use Rattle.judging.proofs.Passed.{not-not, as-laid-down}
use Rattle.operand.proofs.CallLaws.{high_same}
use Rattle.netlist.specs.Running.{gate_count}
use Rattle.netlist.specs.Judgements.{is_gate, is_output}
use Rattle.runner.specs.Causes.{bad_gates}
use Rattle.runner.specs.Inner.{word_causes, bit_causes, list_causes}

module _ (m : ℕ) (list : List ℕ) where
  pub gates-bad : every (gate_count list) (is_gate m list) ≡ false → Err (Call BadGate) ≡ judged (bad_gates m list ∷ [])
  gates-bad e = sym (head-holds (bad_gates m list) [] (rw e))

  pub outputs-bad : every m (is_output m list) ≡ false → Err (Call BadGate) ≡ judged (bad_gates m list ∷ [])
  outputs-bad e = sym (head-holds (bad_gates m list) [] (rw (e, and-false)))

  pub gates-pass : every (gate_count list) (is_gate m list) ≡ true → every m (is_output m list) ≡ true → (bad_gates m list).test ≡ false
  gates-pass e h = rw (e, h)

  pub gates-good : every (gate_count list) (is_gate m list) ≡ true → every m (is_output m list) ≡ true → Ok tt ≡ judged (bad_gates m list ∷ [])
  gates-good e h = sym (none-given (bad_gates m list ∷ []) (gates-pass e h, tt))

-- what a list is that is given no fault
pub record FineList (m : ℕ) (list : List ℕ) (wires : ℕ) : Type 0 where
  pub byte_per_wire : wires ≡ 2 * m + gate_count list
  pub gates : every (gate_count list) (is_gate m list) ≡ true
  pub outputs : every m (is_output m list) ≡ true

pub list-fine : (m : ℕ) (list a b : List ℕ) (wires : ℕ) → judged (list_causes m list a b wires) ≡ Ok tt → FineList m list wires
list-fine m list a b wires e =
    let p = (fine (list_causes m list a b wires) e).1.1.1 in
    let g = and_both (every (gate_count list) (is_gate m list)) (every m (is_output m list)) (not-not _ p.1.1.1.0) in
    record { byte_per_wire = as-laid-down _ _ p.0; gates = g.0; outputs = g.1 }

-- the same causes before two lists that are judged alike
same-before : (cs ds es : List Cause) → judged ds ≡ judged es → judged (cs ++ ds) ≡ judged (cs ++ es)
same-before [] ds es e = e
same-before (c ∷ cs) ds es e = same_head c c (cs ++ ds) (cs ++ es) refl refl (λ q. same-before cs ds es e)

-- bits may be judged on the carried bytes
pub list-carried : {m : ℕ} {a b x y : List ℕ} → HasBytes m a → HasBytes m b → x ≡ carried_by a → y ≡ carried_by b → (list : List ℕ) (wires : ℕ) →
    judged (list_causes m list x y wires) ≡ judged (list_causes m list a b wires)
list-carried {m} {a} {b} h k ex ey list wires =
    ap₂ (λ x y. judged (list_causes m list x y wires)) ex ey
    ∙ same-before (word_causes m list wires) (bit_causes m list (carried_by a) (carried_by b)) (bit_causes m list a b)
    (high_same h (high_bit m (carried_by b) ∷ bad_gates m list ∷ []) (high_bit m b ∷ bad_gates m list ∷ []) (λ q. high_same k (bad_gates m list ∷ []) (bad_gates m list ∷ []) (λ r. refl)))
