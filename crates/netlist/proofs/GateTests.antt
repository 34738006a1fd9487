-- The test of a list's gates and output wires decides: it fails exactly when one is bad.
use mathlib.Core.Path.{◌≡◌, refl}
use mathlib.Core.Logic.{◌↔◌, inl, inr}
use mathlib.Core.Bool.{Bool, true, false, not, ◌&&◌, true≢false}
use mathlib.Core.List.{List}
use Prim.Native.Nat.{ℕ, ◌+◌, ◌*◌, ◌<◌, ◌≤◌}
use native.Mathlib.Omega.{arith}
use lib.Dec.{leb, ltb}
use borrow.Author.Tests.{ltb-true, ltb-false, leb-true, leb-false}
use Rattle.gf2.specs.Sums.{every}
use Rattle.gf2.proofs.Sums.{every-at, every-fails}
use Rattle.gf2.proofs.Parity.{and_both}
use Rattle.gf2.proofs.Decisions.{unless}
use Rattle.netlist.specs.Running.{kind_at, left_at, right_at, gate_count, output_at}
use Rattle.netlist.specs.Judgements.{IsBadGate, HasBadGate, is_gate, is_output}

module _ (m : ℕ) (list : List ℕ) where
  -- the wires of a gate that has passed
  pub gate-wires : (k : ℕ) → is_gate m list k ≡ true → (left_at list k < 2 * m + k) × (right_at list k < 2 * m + k)
  unfolding is_gate
  gate-wires k e =
      let x = and_both (ltb (left_at list k) (2 * m + k)) _ (and_both (leb (kind_at list k) 1) _ e).1 in
      (ltb-true _ _ x.0, ltb-true _ _ x.1)

  good-gate : (k : ℕ) → is_gate m list k ≡ true → ¬ IsBadGate m list k
  unfolding is_gate
  good-gate k e w =
      let q = and_both (leb (kind_at list k) 1) (ltb (left_at list k) (2 * m + k) && ltb (right_at list k) (2 * m + k)) e in
      let p = and_both (ltb (left_at list k) (2 * m + k)) (ltb (right_at list k) (2 * m + k)) q.1 in
      go (leb-true (kind_at list k) 1 q.0) (ltb-true (left_at list k) (2 * m + k) p.0) (ltb-true (right_at list k) (2 * m + k) p.1) w
    where
      go : kind_at list k ≤ 1 → left_at list k < 2 * m + k → right_at list k < 2 * m + k → ¬ IsBadGate m list k
      go a b c (inl h) = omega arith
      go a b c (inr (inl h)) = omega arith
      go a b c (inr (inr h)) = omega arith

  bad-gate : (k : ℕ) → is_gate m list k ≡ false → IsBadGate m list k
  unfolding is_gate
  bad-gate k e = go (leb (kind_at list k) 1) (ltb (left_at list k) (2 * m + k)) (ltb (right_at list k) (2 * m + k)) refl refl refl e
    where
      go : (a b c : Bool) → leb (kind_at list k) 1 ≡ a → ltb (left_at list k) (2 * m + k) ≡ b → ltb (right_at list k) (2 * m + k) ≡ c → (a && (b && c)) ≡ false → IsBadGate m list k
      go false b c p q r e = inl (leb-false (kind_at list k) 1 p)
      go true false c p q r e = inr (inl (ltb-false (left_at list k) (2 * m + k) q))
      go true true false p q r e = inr (inr (ltb-false (right_at list k) (2 * m + k) r))
      go true true true p q r e = absurd (true≢false e)

  pub gates-decide : (not (every (gate_count list) (is_gate m list) && every m (is_output m list)) ≡ true) ↔ HasBadGate m list
  unfolding is_output
  gates-decide = unless (every (gate_count list) (is_gate m list) && every m (is_output m list))
      (λ e. let q = and_both (every (gate_count list) (is_gate m list)) (every m (is_output m list)) e in good q.0 q.1)
      (λ e. bad (every (gate_count list) (is_gate m list)) (every m (is_output m list)) refl refl e)
    where
      good : every (gate_count list) (is_gate m list) ≡ true → every m (is_output m list) ≡ true → ¬ HasBadGate m list
      good p q (inl w) = good-gate w.0 (every-at (gate_count list) (is_gate m list) p w.0 w.1) w.2
      good p q (inr w) = let l = ltb-true (output_at list w.0) (2 * m + gate_count list) (every-at m (is_output m list) q w.0 w.1) in let h = w.2 in omega arith

      bad : (a b : Bool) → every (gate_count list) (is_gate m list) ≡ a → every m (is_output m list) ≡ b → (a && b) ≡ false → HasBadGate m list
      bad false b p q e = let w = every-fails (gate_count list) (is_gate m list) p in inl (w.0, w.1, bad-gate w.0 w.2)
      bad true false p q e = let w = every-fails m (is_output m list) q in inr (w.0, w.1, ltb-false (output_at list w.0) (2 * m + gate_count list) w.2)
      bad true true p q e = absurd (true≢false e)
