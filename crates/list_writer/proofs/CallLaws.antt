-- Laws of the calls that write: the words of a list whose gates are counted, and the answers and buffers.
use Rattle.std.specs.Prelude.{Result, Ok, Err, is_ok}
use mathlib.Core.Path.{◌≡◌, refl, sym, ap, ◌∙◌}
use mathlib.Core.List.{List, [], ◌∷◌}
use Prim.Native.Nat.{ℕ, zero, suc, ◌+◌, ◌*◌, ◌<◌, ◌≤◌}
use native.Mathlib.Omega.{arith}
use lib.ListN.{length}
use borrow.Author.Tests.{lt-ltb, le-ltb}
use Rattle.gf2.specs.Operands.{choose}
use Rattle.gf2.specs.Check.{Symmetric}
use Rattle.judging.specs.declared.fault.Fault.{Fault}
use Rattle.judging.specs.declared.fault.Fault.TheVariants.{Call}
use Rattle.judging.specs.declared.fault.CallFault.TheVariants.{OutputShort}
use Rattle.judging.specs.Causes.{judged}
use Rattle.judging.specs.FaultTable.{too_short, symmetry_causes}
use Rattle.judging.proofs.CauseLaws.{head-holds, head-fails, stops, goes_on, answer-given, answer-refused}
use Rattle.table.specs.Rows.{Shaped}
use Rattle.table.specs.Judgements.{symmetry_verdict}
use Rattle.netlist.specs.declared.GateCounts.{GateCounts}
use Rattle.netlist.specs.declared.Tallied.{Tallied}
use Rattle.netlist.specs.declared.counts.Method.{Method}
use Rattle.netlist.specs.declared.counts.Method.TheVariants.{Common}
use Rattle.netlist.specs.Gates.{Netlist, word_limit, words}
use Rattle.netlist.specs.Lists.{plain, sharing, common, full_rows, if_none}
use Rattle.netlist.specs.Calls.{counts_of, list_verdict, list_call, list_buffer}
use Rattle.netlist.specs.Statements.{Sized}
use Rattle.netlist.specs.Methods.{list_by, shared_by, tallied}
use Rattle.netlist.proofs.CallLaws.{sized-by}
use Rattle.list_writer.specs.Inner.{listed}
use Rattle.list_writer.proofs.ListLaws.{few_words_lem}

-- the words of a list whose gates are counted
module _ (method : Method) {m : ℕ} {table : List ℕ} (h : Shaped m table) (y : Symmetric m table) {t : Tallied} (e : t ≡ tallied method m table) where
  pub sized : Sized m (list_by method m table)
  sized = sized-by m table h.least h.is_table y method

  pub gates-counted : t.gates ≡ length (list_by method m table).gates
  gates-counted = ap (λ (t : Tallied). t.gates) e

  pub words-few : 3 * t.gates + m * m + 3 * m + 2 < word_limit
  words-few = few_words_lem m t.gates h.greatest (omega (arith, gates-counted, sized.most_gates))

  pub words-counted : length (words m (list_by method m table)) ≡ 2 + 3 * t.gates + m
  words-counted = sized.by_gates ∙ ap (λ g. 2 + 3 * g + m) (sym gates-counted)

-- the common list, with and without shared rows
module _ {method : Method} (m : ℕ) (table : List ℕ) {full : ℕ} (s : full ≡ shared_by method m table) (e : method ≡ Common) where
  rows : full ≡ full_rows m table
  rows = s ∙ ap (λ z. shared_by z m table) e

  pub list-none : full ≡ 0 → list_by method m table ≡ plain m table
  list-none z = ap (λ z. list_by z m table) e ∙ go (full_rows m table) refl (sym rows ∙ z)
    where
      go : (q : ℕ) → full_rows m table ≡ q → full_rows m table ≡ 0 → common m table ≡ plain m table
      go q f z = unfold common in ap (λ q. if_none q (plain m table) (sharing m table)) z

  pub list-some : (full ≡ 0 → ⊥) → list_by method m table ≡ sharing m table
  list-some z = ap (λ z. list_by z m table) e ∙ go (full_rows m table) refl
    where
      go : (q : ℕ) → full_rows m table ≡ q → common m table ≡ sharing m table
      go zero f = absurd (z (rows ∙ f))
      go (suc q) f = unfold common in ap (λ q. if_none q (plain m table) (sharing m table)) f

-- a list that is refused, and one that is delivered
module _ (m : ℕ) (table : List ℕ) (list : Netlist) (old : List ℕ) where
  abbrev pub Answered : Result GateCounts Fault → List ℕ → Type 0
  Answered r out = (r ≡ list_call m table list old) × (out ≡ list_buffer m table list old)

  refused : {f : Fault} → list_verdict m table list old ≡ Err f → Answered (Err f) old
  refused e = (answer-refused (counts_of list) e, sym (ap (λ v. choose (is_ok v) (listed m list old) old) e))

  pub list-refused : {f : Fault} → symmetry_verdict m table ≡ Err f → Answered (Err f) old
  list-refused e = refused (stops (symmetry_causes m table) (too_short (length old) (length (words m list)) ∷ []) e)

  module _ (n : symmetry_verdict m table ≡ Ok tt) where
    second : list_verdict m table list old ≡ judged (too_short (length old) (length (words m list)) ∷ [])
    second = goes_on (symmetry_causes m table) (too_short (length old) (length (words m list)) ∷ []) n

    pub list-short : length old < length (words m list) → Answered (Err (Call OutputShort)) old
    list-short l = refused (second ∙ head-holds (too_short (length old) (length (words m list))) [] (lt-ltb (length old) (length (words m list)) l))

    pub list-fits : {c : GateCounts} {out : List ℕ} → length (words m list) ≤ length old → c ≡ counts_of list → out ≡ listed m list old → Answered (Ok c) out
    unfolding judged
    list-fits l e h = (ap Ok e ∙ answer-given (counts_of list) fits, h ∙ sym (ap (λ v. choose (is_ok v) (listed m list old) old) fits))
      where
        fits : list_verdict m table list old ≡ Ok tt
        fits = second ∙ head-fails (too_short (length old) (length (words m list))) [] (le-ltb (length old) (length (words m list)) l)
