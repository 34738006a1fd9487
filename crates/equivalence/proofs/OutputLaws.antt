-- Laws of the outputs of a list that has passed all else: the gate of each, and whether its set is right by the square of that gate.
use mathlib.Core.Path.{◌≡◌, sym, ◌∙◌}
use mathlib.Core.Bool.{false}
use mathlib.Core.List.{List}
use Prim.Native.Nat.{ℕ, ◌+◌, ◌-◌, ◌*◌, ◌<◌, ◌≤◌}
use native.Mathlib.Omega.{arith}
use borrow.Author.Tests.{lt-ltb, le-ltb}
use Rattle.gf2.proofs.Parity.{bool-ext}
use Rattle.netlist.specs.Running.{gate_count, output_at, read_list}
use Rattle.netlist.specs.Sets.{Products, set_on, wanted, SameProducts, same_products, is_right_output}
use Rattle.netlist.proofs.SetTests.{same_at, same_of}
use Rattle.runner.proofs.RunLaws.{output-there}
use Rattle.equivalence.specs.Inner.{bit_at, Ready, Gathered}

-- the gate of an output wire that is none of the inputs
pub output-gate : {m : ℕ} {list : List ℕ} → Ready m list → {r : ℕ} → r < m → 2 * m ≤ output_at list r → output_at list r - 2 * m < gate_count list
output-gate {m} {list} ready {r} l h = omega (arith, h, output-there m list ready.outputs r l)

same-ext : (m : ℕ) (s t u : Products) → SameProducts m s t → same_products m s u ≡ same_products m t u
same-ext m s t u h = bool-ext _ _
    (λ e. same_of m t u (λ i j li lj. sym (h i j li lj) ∙ same_at m s u e i j li lj))
    (λ e. same_of m s u (λ i j li lj. h i j li lj ∙ same_at m t u e i j li lj))

module _ (m : ℕ) (table list : List ℕ) (r : ℕ) where
  pub input-wrong : output_at list r < 2 * m → false ≡ is_right_output m table list r
  unfolding is_right_output
  input-wrong h = rw (lt-ltb (output_at list r) (2 * m) h)

  pub gate-right : {s : List ℕ} → Ready m list → Gathered m list (gate_count list) s → r < m → 2 * m ≤ output_at list r →
      same_products m (bit_at s (output_at list r - 2 * m)) (wanted m table r) ≡ is_right_output m table list r
  unfolding is_right_output
  gate-right {s} ready g l h = rw (le-ltb (output_at list r) (2 * m) h) (same-ext m (bit_at s (output_at list r - 2 * m)) (set_on m (read_list list m) (output_at list r)) (wanted m table r) (λ i j li lj.
      let e : 2 * m + (output_at list r - 2 * m) ≡ output_at list r = omega arith in
      rw e at (g.bits (output_at list r - 2 * m) i j (output-gate ready l h) (omega (arith, ready.narrow)) (omega (arith, ready.narrow)))))
