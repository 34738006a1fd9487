-- The proofs of `CallLaws` in specs/Statements.antt: counts modulo the width, when 10 is given, and the way to W bytes and back.
use Rattle.std.specs.Prelude.{Ok, Err}
use mathlib.Core.Path.{◌≡◌, sym, ap, ◌∙◌}
use mathlib.Core.List.{List, [], ◌∷◌}
use Prim.Native.Nat.{ℕ, ◌%◌, ◌<◌}
use native.Mathlib.Decide.{ℕ_discrete}
use native.Mathlib.Nat.{mod-eq_of_lt}
use native.Mathlib.Omega.{arith}
use lib.ListN.{length, get_or}
use borrow.Author.Tests.{eq-eqb, ne_eqb}
use Rattle.gf2.specs.Coordinates.{coord, pack}
use Rattle.gf2.specs.Operands.{bytes_for, carried_bytes, IsOperand}
use Rattle.gf2.specs.Quadratic.{trace, root}
use Rattle.gf2.proofs.Coordinates.{pack-eq, pack-byte, length-pack, coord-lt, coord-past}
use Rattle.gf2.proofs.Operands.{from-operand, turned-modulo, clear_at}
use Rattle.gf2.proofs.Carrying.{coord-repacked}
use Rattle.operand.specs.declared.Operand.{Operand}
use Rattle.judging.specs.declared.fault.Fault.TheVariants.{Call}
use Rattle.judging.specs.declared.fault.CallFault.TheVariants.{TraceOne}
use Rattle.judging.specs.Causes.{judged}
use Rattle.judging.specs.FaultTable.{trace_is_one}
use Rattle.judging.proofs.CauseLaws.{head-holds, goes_on, fine, none-given, ok_or_err, answer-given, answer-refused, answer-passed}
use Rattle.judging.proofs.Passed.{IsWidth, is-width, as-laid-down, is-clear, width-passes, length-passes, operand-passes}
use Rattle.operand.specs.Causes.{operand_causes, bytes_causes, room_causes}
use Rattle.operand.specs.Calls.{answer, solve_call, read_call, write_call}
use Rattle.operand.specs.Statements.{quadratic, QuadraticLaws, IsCarried, CallLaws}
use Rattle.operand.proofs.FaultFree.{carry, done, operand-none}
use Rattle.operand.proofs.Theorems.{operand-laws}

width : {a : Operand} → IsCarried a → IsWidth a.width
width h = record { least = h.least; greatest = h.greatest }

module _ (c : Operand) (h : IsCarried c) where
  verdict-is : solve_call c ≡ answer (judged (trace_is_one c.width c.bytes ∷ [])) c.width (root c.width c.bytes)
  verdict-is = ap (λ v. answer v c.width (root c.width c.bytes)) (goes_on (operand_causes c) (trace_is_one c.width c.bytes ∷ []) (operand-none (width h) h.operand))

  abbrev Unsolvable : Type 0
  Unsolvable = (z : List ℕ) → IsOperand carried_bytes c.width z → ¬ (quadratic c.width z ≡ c.bytes)

  laws : QuadraticLaws carried_bytes c.width
  laws = operand-laws.quadratics carried_bytes c.width h.least (omega (arith, h.greatest))

  root-operand : IsOperand carried_bytes c.width (root c.width c.bytes)
  unfolding root
  root-operand = rw h.operand.size (from-operand carried_bytes c.width _)

  forth : solve_call c ≡ Err (Call TraceOne) → Unsolvable
  forth e z oz q =
      let t : judged (trace_is_one c.width c.bytes ∷ []) ≡ Ok tt = none-given (trace_is_one c.width c.bytes ∷ []) (ne_eqb (trace c.width c.bytes) 1 (λ u. let v = laws.traceless c.bytes z h.operand oz q in omega (arith, u, v)), tt) in
      ok_or_err (sym e ∙ verdict-is ∙ sym (answer-given _ t))

  back : Unsolvable → solve_call c ≡ Err (Call TraceOne)
  unfolding trace
  back n = verdict-is ∙ elim (ℕ_discrete (trace c.width c.bytes) 1) [
    | yes e ↦ sym (answer-refused _ (head-holds (trace_is_one c.width c.bytes) [] (eq-eqb _ 1 e)))
    | no e ↦ absurd (n (root c.width c.bytes) root-operand (laws.solves c.bytes h.operand (omega arith)))
  ]

-- W bytes hold all coordinates of an operand of width m
module _ {m : ℕ} {x : List ℕ} (old : List ℕ) (w : IsWidth m) (o : IsOperand carried_bytes m x) (size : length old ≡ bytes_for m) where
  written : write_call (carry m x) old ≡ pack (bytes_for m) (coord x)
  written =
      rw (none-given (room_causes (carry m x) (length old)) (width-passes m w, (length-passes _ _ size, (operand-passes m x o, tt))))
      (ap (λ n. pack n (coord x)) size)

  same : (i : ℕ) → coord (pack (bytes_for m) (coord x)) i ≡ coord x i
  same = coord-repacked (bytes_for m) x (λ i h. o.clear i (omega arith))

  read-written : read_call m (write_call (carry m x) old) ≡ done m x
  read-written = rw written (sym (answer-given _ (none-given (bytes_causes m (pack (bytes_for m) (coord x))) (width-passes m w, (length-passes _ _ (length-pack (bytes_for m) (coord x)), (operand-passes m _ {n = bytes_for m} short, tt)))))
      ∙ ap (done m) (sym (pack-eq carried_bytes _ x o.size o.byte (λ i h. sym (ap (λ b. b % 2) (same i) ∙ mod-eq_of_lt (coord-lt x i))))))
    where
      short : IsOperand (bytes_for m) m (pack (bytes_for m) (coord x))
      short = record { size = length-pack _ _; byte = pack-byte _ _; clear = λ i h. same i ∙ o.clear i h }

written_read_lem : (m : ℕ) (bytes old : List ℕ) (a : Operand) → ((b : ℕ) → get_or bytes b 0 < 256) → read_call m bytes ≡ Ok a → length old ≡ length bytes → write_call a old ≡ bytes
written_read_lem m bytes old a small e size =
    let read = answer-passed (judged (bytes_causes m bytes)) e in
    let passed = fine (bytes_causes m bytes) read.0 in
    let w = is-width m passed.0 in
    let h = as-laid-down (length bytes) (bytes_for m) passed.1.0 in
    let same = coord-repacked carried_bytes bytes (λ i l. coord-past bytes i (omega (arith, w.greatest))) in
    let carried : IsOperand carried_bytes m (pack carried_bytes (coord bytes)) = record { size = length-pack _ _; byte = pack-byte _ _; clear = λ i l. same i ∙ clear_at m bytes (is-clear m bytes passed.1.1.0) i l } in
    ap (λ b. write_call b old) (sym read.1) ∙ written old w carried (size ∙ h)
    ∙ sym (pack-eq (bytes_for m) _ bytes h small (λ i l. sym (ap (λ b. b % 2) (same i) ∙ mod-eq_of_lt (coord-lt bytes i))))

pub call-laws : CallLaws
call-laws = record {
  modulo = λ a k. ap (answer (judged (operand_causes a)) a.width) (turned-modulo a.width k a.bytes);
  unsolvable = λ c h. (forth c h, back c h);
  read_written = λ a old h size. read-written old (width h) h.operand size;
  written_read = written_read_lem;
}
