-- Laws of a list of causes, for any list.
-- The fault of a list: of the first part and the rest; what a test that holds or fails makes of it.
-- Exact: a fault is given exactly when its cause holds and no earlier one does.
-- Small: what a fault returns has room, where that of each cause has.
-- Steps: parts judged one after another, as code does. Answers: by their verdict, and what their verdict is.
use mathlib.Core.Path.{◌≡◌, refl, sym, ap, ◌∙◌}
use mathlib.Core.Logic.{◌↔◌, inl, inr}
use mathlib.Core.Bool.{Bool, true, false, true≢false}
use mathlib.Core.List.{List, [], ◌∷◌, ◌++◌}
use Prim.Native.Nat.{ℕ, ◌<◌}
use native.Mathlib.Omega.{arith}
use lib.Dec.{ltb, eqb}
use Rattle.std.specs.Prelude.{Result, Ok, Err, is_ok, IsErrAnd}
use Rattle.std.proofs.lemmas.Result.{err_from_is_err_and}
use borrow.Author.Tests.{ltb-true, ne_eqb}
use Rattle.gf2.proofs.Parity.{and_both}
use Rattle.judging.specs.declared.fault.Fault.{Fault}
use Rattle.judging.specs.Faults.{number_of}
use Rattle.judging.specs.Causes.{Cause, Verdict, judged, answered, verdict_of, First, NoCause, Exact}

never : {A : Type 0} → false ≡ true → A
never e = absurd (true≢false (sym e))

-- by cases of a test
cases : {A : Type 0} (b : Bool) → (b ≡ true → A) → (b ≡ false → A) → A
cases true t f = t refl
cases false t f = f refl

pub number_small : (c : Cause) → (number_of c.fault).0 < 256
number_small c = ltb-true (number_of c.fault).0 256 (and_both (ltb 0 (number_of c.fault).0) (ltb (number_of c.fault).0 256) c.numbered).1

pub number_positive : (c : Cause) → 0 < (number_of c.fault).0
number_positive c = ltb-true 0 (number_of c.fault).0 (and_both (ltb 0 (number_of c.fault).0) (ltb (number_of c.fault).0 256) c.numbered).0

-- the fault in an answer, and one where there is none
fault_or : {A : Type 0} → Fault → Result A Fault → Fault
fault_or f (Ok x) = f
fault_or f (Err g) = g

pub same_fault : {A : Type 0} {f g : Fault} (r : Result A Fault) → r ≡ Err f → r ≡ Err g → f ≡ g
unfolding fault_or
same_fault {f = f} r e h = ap (fault_or f) (sym e ∙ h)

-- an answer is no fault and one at once, never
pub ok_or_err : {A : Type 0} {f : Fault} {x : A} {B : Type 0} → Err f ≡ Ok x → B
ok_or_err e = absurd (true≢false (ap is_ok (sym e)))

-- the fault of a list, by its first cause
module _ (c : Cause) (cs : List Cause) where
  pub head-holds : c.test ≡ true → judged (c ∷ cs) ≡ Err c.fault
  unfolding judged
  head-holds e = rw e

  pub head-fails : c.test ≡ false → judged (c ∷ cs) ≡ judged cs
  unfolding judged
  head-fails e = rw e

-- causes that are judged alike
pub same_head : (c d : Cause) (cs ds : List Cause) → c.test ≡ d.test → c.fault ≡ d.fault → (d.test ≡ false → judged cs ≡ judged ds) → judged (c ∷ cs) ≡ judged (d ∷ ds)
same_head c d cs ds e f h = cases d.test
    (λ q. head-holds c cs (e ∙ q) ∙ ap Err f ∙ sym (head-holds d ds q))
    (λ q. head-fails c cs (e ∙ q) ∙ h q ∙ sym (head-fails d ds q))

-- no test holds
abbrev pub Fine : List Cause → Type 0
Fine [] = Unit
Fine (c ∷ cs) = (c.test ≡ false) × Fine cs

-- no fault is found just where no test holds
pub fine : (cs : List Cause) → judged cs ≡ Ok tt → Fine cs
fine [] e = tt
fine (c ∷ cs) e = cases c.test
    (λ q. ok_or_err (sym (head-holds c cs q) ∙ e))
    (λ q. (q, fine cs (sym (head-fails c cs q) ∙ e)))

pub none-given : (cs : List Cause) → Fine cs → judged cs ≡ Ok tt
unfolding judged
none-given [] n = refl
none-given (c ∷ cs) n = head-fails c cs n.0 ∙ none-given cs n.1

pub none-fine : (cs : List Cause) → (judged cs ≡ Ok tt) ↔ Fine cs
none-fine cs = (fine cs, none-given cs)

-- a part that gives a fault ends it; where a part gives none the rest decides
pub stops : (cs ds : List Cause) {f : Fault} → judged cs ≡ Err f → judged (cs ++ ds) ≡ Err f
unfolding judged
stops [] ds e = ok_or_err (sym e)
stops (c ∷ cs) ds e = cases c.test
    (λ q. head-holds c (cs ++ ds) q ∙ sym (head-holds c cs q) ∙ e)
    (λ q. head-fails c (cs ++ ds) q ∙ stops cs ds (sym (head-fails c cs q) ∙ e))

passes : (cs ds : List Cause) → Fine cs → judged (cs ++ ds) ≡ judged ds
passes [] ds n = refl
passes (c ∷ cs) ds n = head-fails c (cs ++ ds) n.0 ∙ passes cs ds n.1

pub goes_on : (cs ds : List Cause) → judged cs ≡ Ok tt → judged (cs ++ ds) ≡ judged ds
goes_on cs ds e = passes cs ds (fine cs e)

-- the same of a part that code has judged: v is its verdict
module _ (cs ds : List Cause) {v : Verdict} (e : v ≡ judged cs) where
  pub ends : {f : Fault} → v ≡ Err f → Err f ≡ judged (cs ++ ds)
  ends q = sym (stops cs ds (sym e ∙ q))

  pub follows : {r : Verdict} → v ≡ Ok tt → r ≡ judged ds → r ≡ judged (cs ++ ds)
  follows q h = h ∙ sym (goes_on cs ds (sym e ∙ q))

-- what the exit of a `?` hands on is the fault that it was given
pub handed_on : {A : Type 0} {f : Fault} {v : Result A Fault} (r : Result A Fault) → IsErrAnd r (λ g. g ≡ f) → Err f ≡ v → r ≡ v
handed_on r e h = let p = err_from_is_err_and r e in p.1 ∙ ap Err p.2 ∙ h

fails : (c : Cause) → c.test ≡ false → ¬ c.Holds
fails c e h = true≢false (sym (c.exact.1 h) ∙ e)

first_of : (cs : List Cause) (f : Fault) → judged cs ≡ Err f → First cs f
unfolding judged
first_of [] f e = ok_or_err (sym e)
first_of (c ∷ cs) f e = cases c.test
    (λ q. inl (c.exact.0 q, same_fault (judged (c ∷ cs)) e (head-holds c cs q)))
    (λ q. inr (fails c q, first_of cs f (sym (head-fails c cs q) ∙ e)))

pub of-first : (cs : List Cause) (f : Fault) → First cs f → judged cs ≡ Err f
of-first [] f k = absurd k
of-first (c ∷ cs) f (inl k) = head-holds c cs (c.exact.1 k.0) ∙ ap Err (sym k.1)
of-first (c ∷ cs) f (inr k) = cases c.test (λ q. absurd (k.0 (c.exact.0 q))) (λ q. head-fails c cs q ∙ of-first cs f k.1)

pub no-cause : (cs : List Cause) → Fine cs → NoCause cs
no-cause [] n = tt
no-cause (c ∷ cs) n = (fails c n.0, no-cause cs n.1)

of-no-cause : (cs : List Cause) → NoCause cs → judged cs ≡ Ok tt
unfolding judged
of-no-cause [] n = refl
of-no-cause (c ∷ cs) n = cases c.test (λ q. absurd (n.0 (c.exact.0 q))) (λ q. head-fails c cs q ∙ of-no-cause cs n.1)

pub exact : (cs : List Cause) → Exact cs (judged cs)
exact cs = record { given = λ f. (first_of cs f, of-first cs f); none = (λ e. no-cause cs (fine cs e), of-no-cause cs) }

-- what holds of no fault and of each cause's fault, where the causes before it fail, holds of the verdict of the list
module _ (P : Verdict → Type 0) (none : P (Ok tt)) where
  abbrev pub Each : List Cause → Type 0
  Each [] = Unit
  Each (c ∷ cs) = P (Err c.fault) × (c.test ≡ false → Each cs)

  pub keeps : (cs : List Cause) → Each cs → P (judged cs)
  unfolding judged
  keeps [] h = none
  keeps (c ∷ cs) h = cases c.test (λ q. rw (head-holds c cs q) h.0) (λ q. rw (head-fails c cs q) (keeps cs (h.1 q)))

  pub keeps-both : (cs ds : List Cause) → P (judged cs) → (Fine cs → P (judged ds)) → P (judged (cs ++ ds))
  keeps-both [] ds p q = q tt
  keeps-both (c ∷ cs) ds p q = cases c.test
      (λ e. rw (head-holds c (cs ++ ds) e) (rw (sym (head-holds c cs e)) p))
      (λ e. rw (head-fails c (cs ++ ds) e) (keeps-both cs ds (rw (sym (head-fails c cs e)) p) (λ n. q (e, n))))

-- the verdict of an answer of which the rest is said apart
pub verdict_err : {A : Type 0} {r : Result A Fault} {f : Fault} {v : Verdict} → verdict_of r ≡ v → r ≡ Err f → v ≡ Err f
verdict_err e h = sym e ∙ ap verdict_of h

pub verdict_ok : {A : Type 0} {r : Result A Fault} {x : A} {v : Verdict} → verdict_of r ≡ v → r ≡ Ok x → v ≡ Ok tt
verdict_ok e h = sym e ∙ ap verdict_of h

-- an answer by its verdict
module _ {A : Type 0} (x : A) {v : Verdict} where
  pub answer-given : v ≡ Ok tt → Ok x ≡ answered v x
  unfolding answered
  answer-given e = rw e

  pub answer-refused : {f : Fault} → v ≡ Err f → Err f ≡ answered v x
  unfolding answered
  answer-refused e = rw e

-- the verdict of an answer that has a value, and of one that has none
pub answer-passed : {A : Type 0} (v : Verdict) {x y : A} → answered v x ≡ Ok y → (v ≡ Ok tt) × (x ≡ y)
unfolding answered
answer-passed (Ok _) e = (refl, cc)
answer-passed (Err f) e = ok_or_err e

pub answer-failed : {A : Type 0} (v : Verdict) (x : A) {f : Fault} → answered v x ≡ Err f → v ≡ Err f
unfolding answered
answer-failed (Ok _) x e = ok_or_err (sym e)
answer-failed (Err g) x e = ap Err (same_fault (Err g) refl e)

-- what is made of an answer's value, and its fault handed on
pub of-answer : {A B : Type 0} (h : A → B) (v : Verdict) (x : A) {y : A} → answered v x ≡ Ok y → Ok (h y) ≡ answered v (h x)
unfolding answered
of-answer h (Ok _) x e = cc
of-answer h (Err f) x e = ok_or_err e

pub fault-of_answer : {A B : Type 0} (v : Verdict) (x : A) (y : B) {f : Fault} → answered v x ≡ Err f → Err f ≡ answered v y
unfolding answered
fault-of_answer (Ok _) x y e = ok_or_err (sym e)
fault-of_answer (Err g) x y e = ap Err (same_fault (Err g) e refl)
