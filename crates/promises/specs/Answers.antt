-- What a call of the C interface answers and leaves in the buffers that were lent to it.
-- Numbered: what comes out of its answer. Lent: a buffer after it. Asks, Fills: a call that lends none, and one that lends one.
use Rattle.std.specs.Prelude.{◌≡◌, List, ℕ, Ok, Err}
use Rattle.judging.specs.declared.fault.Fault.{Fault}
use Rattle.judging.specs.Faults.{number_of}
use Rattle.nb.specs.Packing.{Unpacks}
use Rattle.judging.specs.Causes.{Cause, Verdict, judged, Exact}

-- a fault's number, and what document 01 returns beside it, come out of the answer
abbrev pub Refuses : ℕ → Fault → Type 0
Refuses answer f = Unpacks answer (number_of f).0 (number_of f).1 (number_of f).2

-- "with the result, or with the number document 01 gives for that fault": number, first and second value as they come out of the answer
pub record Numbered (verdict : Verdict) (answer first second : ℕ) : Type 0 where
  pub refused : (f : Fault) → verdict ≡ Err f → Refuses answer f
  pub answered : verdict ≡ Ok tt → Unpacks answer 0 first second

-- "every lent buffer then being as before the call": a buffer after the call, where it held `old` before
pub record Lent (verdict : Verdict) (after old result : List ℕ) : Type 0 where
  pub kept : (f : Fault) → verdict ≡ Err f → after ≡ old
  pub written : verdict ≡ Ok tt → after ≡ result

-- a call that judges these causes and lends no buffer
pub record Asks (causes : List Cause) (answer first second : ℕ) : Type 0 where
  pub exact : Exact causes (judged causes)
  pub number : Numbered (judged causes) answer first second

-- a call that lends one
pub record Fills (causes : List Cause) (answer first second : ℕ) (after old result : List ℕ) : Type 0 where
  pub exact : Exact causes (judged causes)
  pub number : Numbered (judged causes) answer first second
  pub buffer : Lent (judged causes) after old result
