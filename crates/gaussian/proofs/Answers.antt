-- What the calls answer, by the verdict.
use Rattle.std.specs.Prelude.{None, Some, Result, Ok, Err}
use Rattle.std.specs.Option.{ok_or}
use mathlib.Core.Path.{◌≡◌, refl, sym, ap, ◌∙◌}
use mathlib.Core.Bool.{Bool, true, false}
use mathlib.Core.List.{List, [], ◌∷◌, ◌++◌}
use Prim.Native.Nat.{ℕ, ◌*◌, ◌≤◌}
use lib.ListN.{length}
use lib.Dec.{eqb}
use borrow.Author.Tests.{eq-eqb, ne_eqb, eqb-false}
use Rattle.gf2.specs.Operands.{max_width, bytes_for, choose}
use Rattle.judging.specs.declared.fault.Fault.{Fault}
use Rattle.judging.specs.declared.fault.Fault.TheVariants.{Call}
use Rattle.judging.specs.declared.fault.CallFault.TheVariants.{NoType}
use Rattle.judging.specs.Causes.{Cause, Verdict, judged, answered}
use Rattle.judging.proofs.CauseLaws.{fine, stops, goes_on, answer-given, answer-refused}
use Rattle.judging.proofs.Passed.{is-width, as-laid-down}
use Rattle.gaussian.specs.Types.{type_of}
use Rattle.gaussian.specs.Table.{drawn}
use Rattle.gaussian.specs.Causes.{type_zero, draw_causes}
use Rattle.gaussian.specs.Calls.{answer, draw_verdict, draw_call, drawn_into}
use Rattle.gaussian.specs.Inner.{Drawable, listed}
use Rattle.gaussian.proofs.TypeBound.{type-small}
use Rattle.gaussian.proofs.Theorems.{type-list, type-orders}

-- the entry of the list
module _ (m : ℕ) where
  pub listed-none : type_of m ≡ 0 → None ≡ listed m
  unfolding listed
  listed-none z = rw (eq-eqb (type_of m) 0 z)

  pub listed-some : {t : ℕ} → t ≡ type_of m → ¬ (type_of m ≡ 0) → Some t ≡ listed m
  unfolding listed
  listed-some e n = rw (e, ne_eqb (type_of m) 0 n)

  pub listed-answer : ok_or (listed m) (Call NoType) ≡ answer (judged (type_zero m ∷ [])) m
  unfolding listed judged answered
  listed-answer = go (eqb (type_of m) 0)
    where
      go : (b : Bool) → ok_or (choose b None (Some (type_of m))) (Call NoType) ≡ answered (choose b (Err (Call NoType)) (Ok tt)) (type_of m)
      go true = refl
      go false = refl

-- a part that code has judged: v is its verdict
module _ (m : ℕ) (cs ds : List Cause) {v : Verdict} (e : v ≡ judged cs) where
  pub answer-ends : {f : Fault} → v ≡ Err f → Err f ≡ answer (judged (cs ++ ds)) m
  answer-ends q = answer-refused (type_of m) (stops cs ds (sym e ∙ q))

  pub answer-follows : {r : Result ℕ Fault} → v ≡ Ok tt → r ≡ answer (judged ds) m → r ≡ answer (judged (cs ++ ds)) m
  answer-follows q h = h ∙ ap (λ w. answer w m) (sym (goes_on cs ds (sym e ∙ q)))

module _ (m size : ℕ) where
  -- what is judged when there is no fault
  pub record DrawFine : Type 0 where
    pub least : 2 ≤ m
    pub greatest : m ≤ max_width
    pub laid_down : size ≡ m * bytes_for m
    pub typed : ¬ (type_of m ≡ 0)

  pub draw-fine : draw_verdict m size ≡ Ok tt → DrawFine
  draw-fine e =
      let p = fine (draw_causes m size) e in
      let w = is-width m p.0 in
      record { least = w.least; greatest = w.greatest; laid_down = as-laid-down _ _ p.1.0; typed = eqb-false (type_of m) 0 p.1.1.0 }

  -- what is drawn then
  pub drawable : DrawFine → Drawable m (type_of m)
  drawable d = record {
    least = d.least;
    greatest = d.greatest;
    is_type = type-orders.is_type m (type_of m) ((type-list m d.least d.greatest).chosen d.typed);
    small = type-small m d.least d.greatest;
  }

-- the answer of `draw`, and the table afterwards
pub record Drew (m : ℕ) (old : List ℕ) (r : Result ℕ Fault) (new : List ℕ) : Type 0 where
  pub answers : r ≡ draw_call m (length old)
  pub leaves : new ≡ drawn_into m old

module _ (m : ℕ) (old : List ℕ) where
  pub drew-none : {f : Fault} → Err f ≡ draw_verdict m (length old) → Drew m old (Err f) old
  drew-none e = record { answers = answer-refused (type_of m) (sym e); leaves = rw (← e) }

  pub drew-table : {t : ℕ} {new : List ℕ} → draw_verdict m (length old) ≡ Ok tt → t ≡ type_of m → new ≡ drawn m t → Drew m old (Ok t) new
  drew-table e t h = record { answers = rw t (answer-given (type_of m) e); leaves = rw e (h ∙ ap (drawn m) t) }
