-- Laws of the report: which of its parts the code puts one after the other, and what it has read of a card.
use Rattle.std.specs.Prelude.{Result, Ok, Err}
use Rattle.std.specs.Result.{result_unwrap_or}
use mathlib.Core.Path.{◌≡◌, refl, sym, ap, ap₂, ◌∙◌}
use mathlib.Core.List.{List, [], ◌∷◌, ◌++◌}
use Prim.Native.Nat.{ℕ, ◌*◌, ◌<◌, ◌≤◌}
use native.Mathlib.Omega.{arith}
use lib.ListN.{length, take, drop, replicate, length-append, length-replicate}
use lib.Seq.{take_at}
use borrow.Author.Tests.{lt-ltb, le-ltb}
use Rattle.gf2.specs.Operands.{bytes_for}
use Rattle.gf2.specs.Tables.{ones_in}
use Rattle.judging.specs.declared.fault.Fault.{Fault}
use Rattle.judging.specs.declared.fault.Fault.TheVariants.{Length}
use Rattle.judging.specs.Causes.{Verdict, answered}
use Rattle.judging.specs.FaultTable.{symmetry_causes, triple_causes, check_causes}
use Rattle.judging.proofs.CauseLaws.{same_fault, ok_or_err, fine, none-given}
use Rattle.judging.proofs.Searches.{fine-parts}
use Rattle.table.specs.Rows.{Shaped}
use Rattle.table.specs.Judgements.{check_verdict}
use Rattle.card.specs.Numbers.{Read, refused, got}
use Rattle.card.specs.Cards.{Table, read_card}
use Rattle.card.specs.Calls.{in_front, read_answer, read_into, read_call, read_table}
use Rattle.card.specs.Statements.{Bytes}
use Rattle.card.proofs.Trips.{card-written}
use Rattle.netlist.specs.declared.AllCounts.{AllCounts}
use Rattle.netlist.specs.Lists.{plain, reduced, common}
use Rattle.netlist.specs.Calls.{counts_of, all_counts_call}
use Rattle.reporting.specs.Text.{ascii, spaced, line}
use Rattle.reporting.specs.Steps.{appended, accepted_lines, judged_counts, front, InFront}
use Rattle.reporting.specs.Report.{input_limit, lent, refusal, counts_line, acceptance, closing, table_report, read_report, report}
use Rattle.reporting.proofs.Texts.{appended-more}

-- three parts one after the other
three : (t : List ℕ) (x y z : List ℕ) → appended (appended (appended t x) y) z ≡ appended t (x ++ (y ++ z))
three t x y z = appended-more (appended t x) y z ∙ appended-more t x (y ++ z)

-- the lines of an accepted table, as the code puts them
pub accepted-put : (all : AllCounts) (t : List ℕ) →
    appended
    (appended
    (appended (appended t (ascii "accepted\n")) (counts_line (ascii "plain") all.plain))
    (counts_line (ascii "reduced") all.reduced))
    (counts_line (ascii "common") all.common)
    ≡ appended t (accepted_lines all)
unfolding line spaced
accepted-put all t = three _ _ _ _ ∙ appended-more t (ascii "accepted\n") _

-- what follows the first two lines
abbrev pub lines_of : Result AllCounts Fault → List ℕ
lines_of (Ok all) = accepted_lines all
lines_of (Err f) = refusal f

module _ (m : ℕ) (table : List ℕ) where
  abbrev pub head : List ℕ
  head = appended (appended [] (line (ascii "width") (m ∷ []))) (line (ascii "ones") (ones_in m table ∷ []))

  pub head-put : {first t : List ℕ} {n : ℕ} →
      first ≡ appended [] (line (ascii "width") (m ∷ [])) →
      t ≡ appended first (line (ascii "ones") (n ∷ [])) →
      n ≡ ones_in m table →
      t ≡ head
  head-put h e q = e ∙ ap₂ (λ t n. appended t (line (ascii "ones") (n ∷ []))) h q

  abbrev all : AllCounts
  all = record { plain = counts_of (plain m table); reduced = counts_of (reduced m table); common = counts_of (common m table) }

  lines-are : (v : Verdict) → lines_of (answered v all) ≡ closing m table v
  unfolding answered acceptance
  lines-are (Ok _) = refl
  lines-are (Err f) = refl

  pub table-put : {t : List ℕ} {r : Result AllCounts Fault} → t ≡ head → r ≡ judged_counts m table → appended t (lines_of r) ≡ appended [] (table_report m table)
  unfolding table_report
  table-put h e = ap₂ (λ t r. appended t (lines_of r)) h e ∙ ap (appended head) (lines-are (check_verdict m table)) ∙ three _ _ _ _

  -- the counts of a table that the check refuses, and of one that it accepts: counting judges a part of what the check does
  pub counts-refused : {f : Fault} → check_verdict m table ≡ Err f → Err f ≡ judged_counts m table
  unfolding answered
  counts-refused e = ap (λ v. answered v all) (sym e)

  pub counts-given : check_verdict m table ≡ Ok tt → all_counts_call m table ≡ judged_counts m table
  counts-given e =
      let p = fine-parts (symmetry_causes m table) (triple_causes m table) (fine (check_causes m table) e) in
      ap (λ v. answered v all) (none-given (symmetry_causes m table) p.0 ∙ sym e)

-- the report of an input by its length, and by what reading it finds
pub long-report : (s : List ℕ) → input_limit < length s → refusal Length ≡ report s
unfolding report
long-report s h = rw (lt-ltb input_limit (length s) h)

pub short-report : (s : List ℕ) → length s ≤ input_limit → report s ≡ read_report (read_card lent s)
unfolding report
short-report s h = rw (le-ltb input_limit (length s) h)

-- the table of a card that was read
pub card-shaped : (s : List ℕ) (t : Table) (rest : List ℕ) → Bytes s → read_card lent s ≡ got t rest → Shaped t.width t.bytes
card-shaped s t rest small q =
    let r = card-written lent s t rest small q in
    record { least = r.lent.least; greatest = r.lent.greatest; is_table = r.is_table }

-- what the code knows of a card that it has read
pub record TableRead (s : List ℕ) (m : ℕ) (new : List ℕ) : Type 0 where
  pub in_front : InFront m new
  pub reported : table_report m (front m new) ≡ report s

-- the lent table before the call
abbrev old : List ℕ
old = replicate lent 0

room : length old ≡ lent
room = length-replicate {A = ℕ} lent 0

module _ (s : List ℕ) (short : length s ≤ input_limit) where
  found-answer : (x : Read Table) → read_card lent s ≡ x → read_call s old ≡ read_answer x
  found-answer x q = ap (λ k. read_answer (read_card k s)) room ∙ ap read_answer q

  found-report : (x : Read Table) → read_card lent s ≡ x → report s ≡ read_report x
  found-report x q = short-report s short ∙ ap read_report q

  pub refused-report : {f : Fault} → Err f ≡ read_call s old → refusal f ≡ report s
  refused-report {f} e = go (read_card lent s) refl (e ∙ found-answer (read_card lent s) refl)
    where
      go : (x : Read Table) → read_card lent s ≡ x → Err f ≡ read_answer x → refusal f ≡ report s
      go (refused g) q e = ap refusal (same_fault (Err f) refl e) ∙ sym (found-report (refused g) q)
      go (got t rest) q e = ok_or_err e

  table_of : (t : Table) (rest : List ℕ) → Bytes s → read_card lent s ≡ got t rest → {m : ℕ} {new : List ℕ} → m ≡ t.width → new ≡ in_front t.bytes old → TableRead s m new
  table_of t rest small q {m} {new} w n =
      let r = card-shaped s t rest small q in
      let e : m * bytes_for m ≡ length t.bytes = ap (λ k. k * bytes_for k) w ∙ sym r.is_table.size in
      let b : front m new ≡ t.bytes = ap₂ take e n ∙ take_at t.bytes _ _ refl in
      record {
        in_front = record {
          within = rw (e, n) (omega (arith, length-append t.bytes (drop (length t.bytes) old)));
          shaped = rw (b, w) r;
        };
        reported = ap₂ table_report w b ∙ sym (found-report (got t rest) q);
      }

  pub table-read : {m : ℕ} {new : List ℕ} → Bytes s → Ok m ≡ read_call s old → new ≡ read_table s old → TableRead s m new
  table-read {m} {new} small e n = go (read_card lent s) refl (e ∙ found-answer (read_card lent s) refl)
    where
      go : (x : Read Table) → read_card lent s ≡ x → Ok m ≡ read_answer x → TableRead s m new
      go (refused f) q e = ok_or_err (sym e)
      go (got t rest) q e = table_of t rest small q (ap (λ r. result_unwrap_or r 0) e) (n ∙ ap (λ k. read_into (read_card k s) old) room ∙ ap (λ x. read_into x old) q)
