-- The length of a report: each of its numbers has nine digits at most, so that 128 bytes are enough.
use Rattle.std.specs.Prelude.{Ok, Err}
use mathlib.Core.Path.{◌≡◌, refl, ap, ◌∙◌, subst}
use mathlib.Core.Bool.{Bool, true, false, not}
use mathlib.Core.List.{List, [], ◌∷◌}
use Prim.Native.Nat.{ℕ, ◌+◌, ◌^◌, ◌<◌, ◌≤◌}
use native.Mathlib.Omega.{arith}
use lib.ListN.{length, length-append}
use lib.Dec.{ltb}
use borrow.Author.Tests.{lt-ltb, ltb-true, not-false}
use Rattle.gf2.specs.Operands.{choose}
use Rattle.gf2.specs.Tables.{ones_in}
use Rattle.judging.specs.declared.fault.Fault.{Fault}
use Rattle.judging.specs.declared.fault.Fault.TheVariants.{Length}
use Rattle.judging.specs.Faults.{number_of}
use Rattle.judging.specs.Causes.{Cause, Verdict, judged}
use Rattle.judging.specs.FaultTable.{check_causes}
use Rattle.judging.proofs.CauseLaws.{Each, number_small, keeps}
use Rattle.table.specs.Rows.{Shaped}
use Rattle.table.specs.Judgements.{check_verdict}
use Rattle.table.proofs.Theorems.{acceptance as accepted-table}
use Rattle.card.specs.Numbers.{Read, refused, got}
use Rattle.card.specs.Cards.{lent_causes, Table, read_card}
use Rattle.card.specs.Statements.{Bytes}
use Rattle.card.proofs.Refusals.{card-refusals}
use Rattle.netlist.specs.Gates.{Netlist}
use Rattle.netlist.specs.Lists.{plain, reduced, common}
use Rattle.netlist.specs.Calls.{counts_of}
use Rattle.netlist.specs.Statements.{Sized}
use Rattle.netlist.proofs.TableLaws.{width-square}
use Rattle.netlist.proofs.SizeLaws.{ones-most, counts-most}
use Rattle.netlist.proofs.Theorems.{theorem_lists}
use Rattle.reporting.specs.Text.{ascii, spaced, line, room}
use Rattle.reporting.specs.Steps.{appended}
use Rattle.reporting.specs.Report.{input_limit, lent, refusal, counts_line, acceptance, closing, table_report, read_report, report}
use Rattle.reporting.proofs.Reports.{card-shaped}
use Rattle.reporting.proofs.Texts.{appended-text}
use Rattle.reporting.proofs.Decimals.{decimal-length}

-- No number of a report is as great: nine digits are enough for the counts, which are max_width³ at most.
abbrev great : ℕ
great = 10 ^ 9

line-one : (word : List ℕ) (n : ℕ) → n < great → length (line word (n ∷ [])) ≤ length word + 11
unfolding line spaced
line-one word n h = simp length-append (omega (arith, decimal-length n 8 h))

line-two : (word : List ℕ) (a x : ℕ) → a < great → x < great → length (line word (a ∷ x ∷ [])) ≤ length word + 21
unfolding line spaced
line-two word a x h k = simp length-append (omega (arith, decimal-length a 8 h, decimal-length x 8 k))

-- a number of document 01's table has room in a byte
abbrev Numbered : Verdict → Type 0
Numbered (Ok _) = Unit {0}
Numbered (Err f) = (number_of f).0 < 256

-- that of any list of causes
causes-numbered : (cs : List Cause) → Numbered (judged cs)
causes-numbered cs = keeps Numbered tt cs (each cs)
  where
    each : (ds : List Cause) → Each Numbered tt ds
    each [] = tt
    each (d ∷ ds) = (number_small d, λ e. each ds)

-- that of a card
unnumbered : Fault → Bool
unnumbered f = not (ltb (number_of f).0 256)

card-numbered : (s : List ℕ) (f : Fault) → read_card lent s ≡ refused f → Numbered (Err f)
unfolding unnumbered
card-numbered s f e = ltb-true _ 256 (not-false _ (card-refusals unnumbered lent
    (record { ends = refl; number = refl; form = refl; place = refl; tail = refl; lent = λ m f e. ap not (lt-ltb _ 256 (subst Numbered e (causes-numbered (lent_causes lent m)))) }) s f e))

refusal-length : (f : Fault) → Numbered (Err f) → length (refusal f) ≤ 18
unfolding refusal
refusal-length f h = line-one (ascii "refused") _ (omega (arith, h))

-- the numbers of a table that is accepted
module _ (m : ℕ) (table : List ℕ) (shaped : Shaped m table) where
  few_ones : ones_in m table < great
  few_ones = omega (arith, ones-most m table, width-square m m shaped.greatest shaped.greatest)

  counts-short : (word : List ℕ) (list : Netlist) → Sized m list → length (counts_line word (counts_of list)) ≤ length word + 21
  unfolding counts_line
  counts-short word list s = let both = counts-most m list shaped.greatest s in line-two word _ _ (omega (arith, both)) (omega (arith, both))

  acceptance-length : check_verdict m table ≡ Ok tt → length (acceptance m table) ≤ 90
  unfolding acceptance line spaced
  acceptance-length e =
      let lists = theorem_lists m table shaped.least shaped.is_table ((accepted-table m table).0 e).1.symmetric in
      simp length-append (omega (
        arith,
        counts-short (ascii "plain") (plain m table) lists.of_plain.sized,
        counts-short (ascii "reduced") (reduced m table) lists.of_reduced.sized,
        counts-short (ascii "common") (common m table) lists.of_common.sized,
      ))

  closing-length : (v : Verdict) → check_verdict m table ≡ v → length (closing m table v) ≤ 90
  closing-length (Ok _) e = acceptance-length e
  closing-length (Err f) e = omega (arith, refusal-length f (subst Numbered e (causes-numbered (check_causes m table))))

  table-length : length (table_report m table) ≤ room
  unfolding table_report
  table-length =
      simp length-append (omega (
        arith,
        closing-length (check_verdict m table) refl,
        line-one (ascii "width") m (omega (arith, shaped.greatest)),
        line-one (ascii "ones") (ones_in m table) few_ones,
      ))

read_length : (s : List ℕ) → Bytes s → (x : Read Table) → read_card lent s ≡ x → length (read_report x) ≤ room
read_length s small (refused f) q = omega (arith, refusal-length f (card-numbered s f q))
read_length s small (got t rest) q = table-length t.width t.bytes (card-shaped s t rest small q)

pub report-length : (s : List ℕ) → Bytes s → length (report s) ≤ room
unfolding report
report-length s small = go (ltb input_limit (length s))
  where
    go : (b : Bool) → length (choose b (refusal Length) (read_report (read_card lent s))) ≤ room
    go true = omega (arith, refusal-length Length (omega arith))
    go false = read_length s small (read_card lent s) refl

-- the text that the code ends with
pub whole : (s : List ℕ) {t l : List ℕ} → Bytes s → t ≡ appended [] l → l ≡ report s → t ≡ report s
whole s small e q = e ∙ ap (appended []) q ∙ appended-text [] (report s) (report-length s small)
