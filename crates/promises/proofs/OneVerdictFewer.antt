-- Number 7 and its test are taken out: what rules 4, 5 and 6 imply (theorem C of gf2) told of the check.
use Rattle.std.specs.Prelude.{Ok, Err}
use Rattle.std.specs.Result.{result_and}
use mathlib.Core.Path.{◌≡◌, refl, ap, subst}
use mathlib.Core.List.{List}
use Prim.Native.Nat.{ℕ, ◌≤◌}
use native.Mathlib.Omega.{arith}
use Rattle.gf2.specs.Operands.{choose, same}
use Rattle.gf2.specs.Tables.{basis}
use Rattle.gf2.specs.Statements.{row_sum}
use Rattle.gf2.proofs.Decisions.{same-decides}
use Rattle.gf2.proofs.Theorems.{theorem_c}
use Rattle.judging.specs.declared.fault.Fault.{Fault}
use Rattle.judging.specs.Faults.{number_of}
use Rattle.judging.specs.Causes.{Verdict}
use Rattle.judging.specs.FaultTable.{symmetry_causes, triple_causes}
use Rattle.judging.proofs.CauseLaws.{keeps-both}
use Rattle.table.specs.Judgements.{check_verdict}
use Rattle.table.proofs.CheckFaults.{of-symmetry, of-triples}
use Rattle.table.proofs.Theorems.{same_set_lem}
use Rattle.promises.specs.OneVerdictFewer.{OneVerdictFewer}
use Rattle.promises.proofs.Numbers.{never7}

abbrev AtMost6 : Verdict → Type 0
AtMost6 (Ok _) = Unit {0}
AtMost6 (Err f) = (number_of f).0 ≤ 6

module _ (m : ℕ) (t : List ℕ) where
  least : AtMost6 (check_verdict m t)
  least = keeps-both AtMost6 tt (symmetry_causes m t) (triple_causes m t)
      (of-symmetry AtMost6 tt m t (omega arith) (omega arith) (omega arith) (omega arith) (λ d l. omega arith))
      (λ p. of-triples AtMost6 tt m t (λ i j k l. omega arith))

  ends : (f : Fault) → check_verdict m t ≡ Err f → (number_of f).0 ≤ 6
  ends f e = subst AtMost6 e least

  unchanged : (f : Fault) → result_and (check_verdict m t) (choose (same (row_sum m t) (basis m 0)) (Ok tt) (Err f)) ≡ check_verdict m t
  unchanged f = go (check_verdict m t) refl
    where
      go : (v : Verdict) → check_verdict m t ≡ v → result_and v (choose (same (row_sum m t) (basis m 0)) (Ok tt) (Err f)) ≡ v
      go (Ok _) e = ap (λ b. choose b (Ok tt) (Err f)) ((same-decides _ _).1 ((same_set_lem m t).0 e).2)
      go (Err g) e = refl

pub one-verdict-fewer : OneVerdictFewer
one-verdict-fewer = record { row_sums = theorem_c; never7 = never7; ends = ends; same_set = same_set_lem; unchanged = unchanged }
