-- Which faults a report can name: 3 and 11 are not among them.
use Rattle.std.specs.Prelude.{Ok, Err}
use mathlib.Core.Path.{◌≡◌, refl, sym, ap, subst}
use mathlib.Core.Bool.{Bool, true, false, ◌||◌, true≢false}
use mathlib.Core.List.{List, [], ◌∷◌, ◌++◌, append_assoc}
use Prim.Native.Nat.{ℕ, ◌*◌}
use lib.ListN.{length}
use lib.Dec.{ltb, eqb}
use Rattle.gf2.specs.Operands.{bytes_for, choose}
use Rattle.gf2.specs.Tables.{ones_in}
use Rattle.judging.specs.declared.fault.Fault.{Fault}
use Rattle.judging.specs.declared.fault.Fault.TheVariants.{Length}
use Rattle.judging.specs.Faults.{number_of}
use Rattle.judging.specs.Causes.{Cause, Verdict, judged}
use Rattle.judging.specs.FaultTable.{bad_width, too_short, shape_causes, rule_causes, symmetry_causes, triple_causes}
use Rattle.judging.proofs.CauseLaws.{Fine, none-given, keeps, keeps-both, same_fault}
use Rattle.judging.proofs.Passed.{is-width, size_small, room-passes}
use Rattle.table.specs.Rows.{Shaped}
use Rattle.table.specs.Judgements.{symmetry_verdict, check_verdict}
use Rattle.table.proofs.CheckFaults.{of-rules, of-triples}
use Rattle.table.proofs.Shapes.{shape-passes}
use Rattle.card.specs.Numbers.{Read, refused, got}
use Rattle.card.specs.Cards.{Table, lent_verdict, read_card}
use Rattle.card.specs.Statements.{Bytes}
use Rattle.card.proofs.Refusals.{card-refusals}
use Rattle.reporting.specs.Text.{ascii, line}
use Rattle.reporting.specs.Report.{input_limit, lent, refusal, table_report, read_report, report, read_verdict, verdict}
use Rattle.reporting.specs.Statements.{Not}
use Rattle.reporting.proofs.Reports.{card-shaped}

-- the numbers that can't come out
unfoldable barred : Fault → Bool
barred f = eqb (number_of f).0 3 || eqb (number_of f).0 11

abbrev Apart : Verdict → Type 0
Apart (Ok _) = Unit {0}
Apart (Err f) = barred f ≡ false

-- a list of which no test holds
fine-apart : (cs : List Cause) → Fine cs → Apart (judged cs)
fine-apart cs p = subst Apart (sym (none-given cs p)) tt

-- the check of a table that was read
module _ (m : ℕ) (t : List ℕ) (shaped : Shaped m t) where
  rules-apart : Apart (judged (rule_causes m t))
  unfolding barred
  rules-apart = of-rules Apart tt m t refl (λ d l. refl)

  triples-apart : Apart (judged (triple_causes m t))
  unfolding barred
  triples-apart = of-triples Apart tt m t (λ i j k l. refl)

  symmetry-apart : Apart (symmetry_verdict m t)
  symmetry-apart = keeps-both Apart tt (shape_causes m t) (rule_causes m t) (fine-apart (shape_causes m t) (shape-passes shaped)) (λ p. rules-apart)

  check-apart : Apart (check_verdict m t)
  check-apart = keeps-both Apart tt (symmetry_causes m t) (triple_causes m t) symmetry-apart (λ p. triples-apart)

-- the lent table has room for every width that passes
lent-apart : (m : ℕ) → Apart (lent_verdict lent m)
unfolding barred
lent-apart m = keeps-both Apart tt (bad_width m ∷ []) (too_short lent (m * bytes_for m) ∷ []) (keeps Apart tt (bad_width m ∷ []) (refl, λ e. tt)) (λ p.
    fine-apart (too_short lent (m * bytes_for m) ∷ []) (room-passes lent (m * bytes_for m) (size_small m (is-width m p.0).greatest), tt))

read-apart : (s : List ℕ) → Bytes s → (x : Read Table) → read_card lent s ≡ x → Apart (read_verdict x)
unfolding barred
read-apart s small (refused f) q =
    card-refusals barred lent (record { ends = refl; number = refl; form = refl; place = refl; tail = refl; lent = λ m f e. subst Apart e (lent-apart m) }) s f q
read-apart s small (got t rest) q = check-apart t.width t.bytes (card-shaped s t rest small q)

verdict-apart : (s : List ℕ) → Bytes s → Apart (verdict s)
unfolding verdict
verdict-apart s small = go (ltb input_limit (length s))
  where
    go : (b : Bool) → Apart (choose b (Err Length) (read_verdict (read_card lent s)))
    go true = unfold barred in refl
    go false = read-apart s small (read_card lent s) refl

pub never-three : (s : List ℕ) (f : Fault) → Bytes s → verdict s ≡ Err f → Not 3 f
unfolding barred
never-three s f small e n = true≢false (rw n at (subst Apart e (verdict-apart s small)))

pub never-eleven : (s : List ℕ) (f : Fault) → Bytes s → verdict s ≡ Err f → Not 11 f
unfolding barred
never-eleven s f small e n = true≢false (rw n at (subst Apart e (verdict-apart s small)))

-- what a report that does not accept ends with
abbrev EndsWith : List ℕ → List ℕ → Type 0
EndsWith l end = (front : List ℕ) × (l ≡ front ++ end)

module _ (f : Fault) where
  itself : (g : Fault) → ◌≡◌ {A = Verdict} (Err g) (Err f) → EndsWith (refusal g) (refusal f)
  itself g e = ([], ap refusal (same_fault (Err g) refl e))

  table-ends : (m : ℕ) (t : List ℕ) → check_verdict m t ≡ Err f → EndsWith (table_report m t) (refusal f)
  unfolding table_report
  table-ends m t e =
      let width = line (ascii "width") (m ∷ []) in
      let ones = line (ascii "ones") (ones_in m t ∷ []) in
      (width ++ ones, rw e (sym (append_assoc width ones (refusal f))))

  read-ends : (x : Read Table) → read_verdict x ≡ Err f → EndsWith (read_report x) (refusal f)
  read-ends (refused g) e = itself g e
  read-ends (got t rest) e = table-ends t.width t.bytes e

pub report-ends : (s : List ℕ) (f : Fault) → verdict s ≡ Err f → EndsWith (report s) (refusal f)
unfolding report verdict
report-ends s f e = go (ltb input_limit (length s)) e
  where
    go : (b : Bool) → choose b (Err Length) (read_verdict (read_card lent s)) ≡ Err f → EndsWith (choose b (refusal Length) (read_report (read_card lent s))) (refusal f)
    go true h = itself f Length h
    go false h = read-ends f (read_card lent s) h
