-- What the calls answer for operands that have no fault: for callers that know so.
use Rattle.std.specs.Prelude.{Result, Ok}
use mathlib.Core.Path.{◌≡◌, refl, sym}
use mathlib.Core.List.{List}
use Prim.Native.Nat.{ℕ}
use Rattle.gf2.specs.Operands.{carried_bytes, IsOperand, turned, squared, added}
use Rattle.judging.specs.declared.fault.Fault.{Fault}
use Rattle.judging.specs.Causes.{judged}
use Rattle.judging.proofs.CauseLaws.{none-given, answer-given}
use Rattle.judging.proofs.Passed.{IsWidth, width-passes, length-passes, operand-passes}
use Rattle.operand.specs.declared.Operand.{Operand}
use Rattle.operand.specs.Causes.{operand_causes, pair_causes}
use Rattle.operand.specs.Calls.{turn_call, square_call, sum_call}

-- the operand of width m with these bytes
abbrev pub carry : ℕ → List ℕ → Operand
carry m x = record { bytes = x; width = m }

abbrev pub done : ℕ → List ℕ → Result Operand Fault
done m x = Ok (carry m x)

module _ {m : ℕ} {x : List ℕ} (w : IsWidth m) (o : IsOperand carried_bytes m x) where
  pub operand-none : judged (operand_causes (carry m x)) ≡ Ok tt
  operand-none = none-given (operand_causes (carry m x)) (width-passes m w, (operand-passes m x o, tt))

  pub turn-done : (k : ℕ) → turn_call (carry m x) k ≡ done m (turned m k x)
  turn-done k = sym (answer-given _ operand-none)

  pub square-done : square_call (carry m x) ≡ done m (squared m x)
  square-done = sym (answer-given _ operand-none)

  pub sum_done : {y : List ℕ} → IsOperand carried_bytes m y → sum_call (carry m x) (carry m y) ≡ done m (added m x y)
  sum_done {y} q =
      sym (answer-given _ (none-given (pair_causes (carry m x) (carry m y)) (width-passes m w, (width-passes m w, (length-passes m m refl, (operand-passes m x o, (operand-passes m y q, tt)))))))
