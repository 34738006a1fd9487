-- The report program: what it prints for each input, by what reading the card and checking its table find.
use Rattle.std.specs.Prelude.{Err}
use mathlib.Core.Path.{◌≡◌, refl, sym, ap, ◌∙◌}
use mathlib.Core.List.{List, [], ◌∷◌, ◌++◌, append_assoc}
use Prim.Native.Nat.{ℕ, ◌≤◌}
use lib.ListN.{length}
use Rattle.judging.specs.declared.fault.Fault.{Fault}
use Rattle.netlist.specs.Lists.{plain, reduced, common}
use Rattle.card.specs.Numbers.{Read, refused, got}
use Rattle.card.specs.Cards.{Table, read_card}
use Rattle.card.specs.Calls.{read_answer}
use Rattle.card.specs.Statements.{Bytes}
use Rattle.reporting.specs.Text.{ascii, line}
use Rattle.reporting.specs.Report.{input_limit, lent, refusal, counts_line, acceptance, table_report, read_report, report}
use Rattle.reporting.proofs.Reports.{long-report, short-report}
use Rattle.judging.specs.Causes.{verdict_of, First, NoCause}
use Rattle.judging.specs.FaultTable.{check_causes}
use Rattle.promises.specs.CardCauses.{BadCard, GoodCard}
use Rattle.promises.specs.Reports.{head, gates, Reports}
use Rattle.judging.proofs.CauseLaws.{exact, of-first, same_fault, ok_or_err}
use Rattle.promises.proofs.CardTests.{good-read, card-exact}

module _ (m : ℕ) (table : List ℕ) where
  -- a check fault
  table-refused : (f : Fault) → First (check_causes m table) f → table_report m table ≡ head m table ++ refusal f
  unfolding table_report
  table-refused f h = rw (of-first (check_causes m table) f h) (sym (append_assoc (line (ascii "width") (m ∷ [])) _ _))

  table-accepted : NoCause (check_causes m table) → table_report m table ≡ head m table ++ (line (ascii "accepted") [] ++ (gates (ascii "plain") (plain m table)
      ++ (gates (ascii "reduced") (reduced m table) ++ gates (ascii "common") (common m table))))
  unfolding table_report acceptance counts_line
  table-accepted n = rw ((exact (check_causes m table)).none.1 n) (sym (append_assoc (line (ascii "width") (m ∷ [])) _ _))

module _ (s : List ℕ) (small : Bytes s) (short : length s ≤ input_limit) where
  bad : (f : Fault) → BadCard lent s f → report s ≡ refusal f
  bad f b = short-report s short ∙ go (read_card lent s) (((card-exact lent s small).given f).1 b)
    where
      go : (x : Read Table) → verdict_of (read_answer x) ≡ Err f → read_report x ≡ refusal f
      go (refused g) e = ap refusal (same_fault (Err g) refl e)
      go (got t rest) e = ok_or_err (sym e)

  good : (m : ℕ) (table : List ℕ) → GoodCard lent s m table → report s ≡ table_report m table
  good m table g = short-report s short ∙ ap read_report (good-read g)

pub reports : (s : List ℕ) → Bytes s → Reports s
reports s small = record {
  too_long = λ h. sym (long-report s h);
  bad_card = bad s small;
  refused = λ short m table g f h. good s small short m table g ∙ table-refused m table f h;
  accepted = λ short m table g n. good s small short m table g ∙ table-accepted m table n;
}
