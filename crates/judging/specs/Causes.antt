-- A cause of a fault, the fault of a list of causes, and what "exactly when" says of it.
use Rattle.std.specs.Prelude.{◌≡◌, ◌↔◌, ◌⊎◌, Bool, true, ◌&&◌, List, [], ◌∷◌, ◌++◌, ℕ, zero, suc, ◌+◌, ltb, Result, Ok, Err}
use Rattle.gf2.specs.Operands.{choose}
use Rattle.judging.specs.declared.fault.Fault.{Fault}
use Rattle.judging.specs.Faults.{number_of}

-- A row of document 01's table of faults: the column Cause in its words, a test that decides it, and the fault that it gives.
pub record Cause : Type 1 where
  pub Holds : Type 0
  pub test : Bool
  pub exact : (test ≡ true) ↔ Holds
  pub fault : Fault
  -- its number is one of the table, and has room in a byte
  pub numbered : (ltb 0 (number_of fault).0 && ltb (number_of fault).0 256) ≡ true

-- what a judgement ends with: no fault, or the fault that is found
abbrev pub Verdict : Type 0
Verdict = Result (Unit {0}) Fault

-- "Lowest number first": the fault of the first cause whose test holds, where the causes stand in the order in which they are judged
unfoldable pub judged : List Cause → Verdict
judged [] = Ok tt
judged (c ∷ cs) = choose c.test (Err c.fault) (judged cs)

-- what a call that judges answers: its value where there is no fault, else the fault alone
unfoldable pub answered : {A : Type 0} → Verdict → A → Result A Fault
answered (Ok _) value = Ok value
answered (Err f) value = Err f

-- the verdict in an answer
abbrev pub verdict_of : {A : Type 0} → Result A Fault → Verdict
verdict_of (Ok _) = Ok tt
verdict_of (Err f) = Err f

-- the causes c start, c (start + 1), .., `count` of them, in this order
unfoldable pub from : ℕ → ℕ → (ℕ → List Cause) → List Cause
from start zero c = []
from start (suc count) c = c start ++ from (start + 1) count c

-- f is the fault of a cause that holds and before which no cause holds
abbrev pub First : List Cause → Fault → Type 0
First [] f = ⊥
First (c ∷ cs) f = (c.Holds × (f ≡ c.fault)) ⊎ ((¬ c.Holds) × First cs f)

-- no cause holds
abbrev pub NoCause : List Cause → Type 0
NoCause [] = Unit
NoCause (c ∷ cs) = (¬ c.Holds) × NoCause cs

-- A fault is given exactly when its cause holds and no earlier one does; none is given exactly when there is no cause.
pub record Exact (causes : List Cause) (verdict : Verdict) : Type 0 where
  pub given : (f : Fault) → (verdict ≡ Err f) ↔ First causes f
  pub none : (verdict ≡ Ok tt) ↔ NoCause causes
