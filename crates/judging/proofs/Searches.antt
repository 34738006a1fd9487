-- Causes that an index gives, one after another, and the steps of a loop that looks for the first.
-- Append, from: no test of two parts holds, nor of all that an index gives. Steps: none left; the next one holds; the next part fails.
use mathlib.Core.Path.{◌≡◌, ap, ◌∙◌}
use mathlib.Core.Bool.{true, false}
use mathlib.Core.List.{List, [], ◌∷◌, ◌++◌}
use Prim.Native.Nat.{ℕ, zero, suc, ◌+◌, ◌-◌, ◌<◌, ◌≤◌}
use native.Mathlib.Decide.{ℕ_discrete}
use native.Mathlib.Omega.{arith}
use Rattle.judging.specs.declared.fault.Fault.{Fault}
use Rattle.std.specs.Prelude.{Ok, Err}
use Rattle.judging.specs.Causes.{Cause, Verdict, judged, from}
use Rattle.judging.proofs.CauseLaws.{Fine, Each, stops, goes_on}

pub fine-append : (cs ds : List Cause) → Fine cs → Fine ds → Fine (cs ++ ds)
fine-append [] ds p q = q
fine-append (c ∷ cs) ds p q = (p.0, fine-append cs ds p.1 q)

pub fine-parts : (cs ds : List Cause) → Fine (cs ++ ds) → Fine cs × Fine ds
fine-parts [] ds p = (tt, p)
fine-parts (c ∷ cs) ds p = let q = fine-parts cs ds p.1 in ((p.0, q.0), q.1)

module _ (c : ℕ → List Cause) where
  pub fine-from : (start count : ℕ) → ((d : ℕ) → start ≤ d → d < start + count → Fine (c d)) → Fine (from start count c)
  unfolding from
  fine-from start zero h = tt
  fine-from start (suc count) h =
      fine-append (c start) (from (start + 1) count c) (h start (omega arith) (omega arith)) (fine-from (start + 1) count (λ d l k. h d (omega arith) (omega arith)))

  pub fine-at : (start count : ℕ) → Fine (from start count c) → (d : ℕ) → start ≤ d → d < start + count → Fine (c d)
  unfolding from
  fine-at start zero p d l k = absurd (omega arith)
  fine-at start (suc count) p d l k =
      let q = fine-parts (c start) (from (start + 1) count c) p in
      elim (ℕ_discrete d start) [
        | yes e ↦ rw e q.0
        | no e ↦ fine-at (start + 1) count q.1 d (omega arith) (omega arith)
      ]

  -- those from d on, below n
  abbrev pub up_to : ℕ → ℕ → List Cause
  up_to n d = from d (n - d) c

  pub up_start : (n : ℕ) → up_to n 0 ≡ from 0 n c
  up_start n = let e : n - 0 ≡ n = omega arith in rw e

  up_step : (n d : ℕ) → d < n → up_to n d ≡ c d ++ up_to n (d + 1)
  unfolding from
  up_step n d h = let e : n - d ≡ suc (n - (d + 1)) = omega arith in rw e

  pub none_left : (n d : ℕ) → n ≤ d → judged (up_to n d) ≡ Ok tt
  unfolding from judged
  none_left n d h = let e : n - d ≡ 0 = omega arith in rw e

  pub found_here : (n d : ℕ) → d < n → {f : Fault} → judged (c d) ≡ Err f → judged (up_to n d) ≡ Err f
  found_here n d h e = ap judged (up_step n d h) ∙ stops (c d) (up_to n (d + 1)) e

  pub none_here : (n d : ℕ) → d < n → judged (c d) ≡ Ok tt → judged (up_to n d) ≡ judged (up_to n (d + 1))
  none_here n d h e = ap judged (up_step n d h) ∙ goes_on (c d) (up_to n (d + 1)) e

-- the same where the index gives one cause
module _ (c : ℕ → Cause) where
  pub one_found : (n d : ℕ) → d < n → (c d).test ≡ true → judged (up_to (λ k. c k ∷ []) n d) ≡ Err (c d).fault
  unfolding from judged
  one_found n d h e = let s : n - d ≡ suc (n - (d + 1)) = omega arith in rw (s, e)

  pub one-fails : (n d : ℕ) → d < n → (c d).test ≡ false → judged (up_to (λ k. c k ∷ []) n d) ≡ judged (up_to (λ k. c k ∷ []) n (d + 1))
  unfolding from judged
  one-fails n d h e = let s : n - d ≡ suc (n - (d + 1)) = omega arith in rw (s, e)

-- what holds of each cause's fault, of two parts and of all that an index gives
module _ (P : Verdict → Type 0) (none : P (Ok tt)) where
  pub each_append : (cs ds : List Cause) → Each P none cs → (Fine cs → Each P none ds) → Each P none (cs ++ ds)
  each_append [] ds p q = q tt
  each_append (c ∷ cs) ds p q = (p.0, λ e. each_append cs ds (p.1 e) (λ f. q (e, f)))

  pub each_from : (c : ℕ → List Cause) (start count : ℕ) → ((d : ℕ) → start ≤ d → d < start + count → Each P none (c d)) → Each P none (from start count c)
  unfolding from
  each_from c start zero h = tt
  each_from c start (suc count) h =
      each_append (c start) (from (start + 1) count c) (h start (omega arith) (omega arith)) (λ f. each_from c (start + 1) count (λ d l k. h d (omega arith) (omega arith)))
