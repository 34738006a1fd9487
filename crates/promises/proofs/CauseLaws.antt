-- The cases of the verdict of a list of causes, when the last cause gives it, and a width that is no cause.
use Rattle.std.specs.Prelude.{Ok, Err}
use mathlib.Core.Path.{◌≡◌, refl, sym, ap, ◌∙◌}
use mathlib.Core.Logic.{◌↔◌, ◌⊎◌, inl, inr}
use mathlib.Core.Bool.{Bool, true, false, true≢false}
use mathlib.Core.List.{List, [], ◌∷◌, ◌++◌}
use Prim.Native.Nat.{ℕ, ◌≤◌}
use native.Mathlib.Omega.{arith}
use native.Mathlib.Decide.{dec_lt}
use Rattle.gf2.specs.Operands.{max_width}
use Rattle.judging.specs.declared.fault.Fault.{Fault}
use Rattle.judging.specs.Faults.{number_of}
use Rattle.judging.specs.Causes.{Cause, Verdict, judged, First, NoCause}
use Rattle.judging.specs.FaultTable.{BadWidth}
use Rattle.judging.proofs.CauseLaws.{head-holds, head-fails}

-- the first cause that holds gives the fault of v, and where none holds v has none
abbrev pub Decides : List Cause → Verdict → Type 0
Decides [] v = v ≡ Ok tt
Decides (c ∷ cs) v = (c.Holds × (v ≡ Err c.fault)) ⊎ ((¬ c.Holds) × Decides cs v)

pub decides : (cs : List Cause) (v : Verdict) → v ≡ judged cs → Decides cs v
unfolding judged
decides [] v e = e
decides (c ∷ cs) v e = go c.test refl (λ q. decides cs v (e ∙ head-fails c cs q))
  where
    go : (b : Bool) → c.test ≡ b → (c.test ≡ false → Decides cs v) → Decides (c ∷ cs) v
    go true q h = inl (c.exact.0 q, e ∙ head-holds c cs q)
    go false q h = inr (λ k. true≢false (sym (c.exact.1 k) ∙ q), h q)

-- no cause of a list gives a fault of f's number
abbrev pub Unlike : List Cause → Fault → Type 0
Unlike [] f = Unit
Unlike (c ∷ cs) f = (¬ ((number_of f).0 ≡ (number_of c.fault).0)) × Unlike cs f

-- the last cause of a list gives its fault exactly when it holds and no other does
last-to : (cs : List Cause) (c : Cause) → Unlike cs c.fault → First (cs ++ c ∷ []) c.fault → NoCause cs × c.Holds
last-to [] c u (inl h) = (tt, h.0)
last-to [] c u (inr h) = absurd h.1
last-to (d ∷ cs) c u (inl h) = absurd (u.0 (ap (λ f. (number_of f).0) h.1))
last-to (d ∷ cs) c u (inr h) = let q = last-to cs c u.1 h.1 in ((h.0, q.0), q.1)

last-from : (cs : List Cause) (c : Cause) → NoCause cs → c.Holds → First (cs ++ c ∷ []) c.fault
last-from [] c n h = inl (h, refl)
last-from (d ∷ cs) c n h = inr (n.0, last-from cs c n.1 h)

pub last-first : (cs : List Cause) (c : Cause) → Unlike cs c.fault → First (cs ++ c ∷ []) c.fault ↔ (NoCause cs × c.Holds)
last-first cs c u = (last-to cs c u, λ h. last-from cs c h.0 h.1)

pub wide : {m : ℕ} → ¬ BadWidth m → (2 ≤ m) × (m ≤ max_width)
wide {m} n = elim (dec_lt 1 m) [
  | yes l ↦ elim (dec_lt max_width m) [
    | yes u ↦ absurd (n (λ h. let k = h.1 in omega arith))
    | no u ↦ (omega arith, omega arith)
  ]
  | no l ↦ absurd (n (λ h. let k = h.0 in omega arith))
]
