-- `table::symmetry::SymmetricTable::search_triples` meets its contract.
use mathlib.Core.Path.{refl, sym, ap, ◌∙◌}
use native.Mathlib.Omega.{arith}
use Rattle.judging.specs.Causes.{judged}
use Rattle.judging.specs.FaultTable.{triple_differs}
use Rattle.judging.proofs.Searches.{up_start, none_left, found_here, none_here, one_found, one-fails}
use Rattle.table.proofs.Rules.{pair_causes, row_causes, triple-test}
use Rattle.table.proofs.symmetry.SymmetricTable.search_triples.Goals as goal

pub search-init : goal.search-init
search-init c = (refl, sym (ap judged (up_start (row_causes _ _) _)))

pub loop-j-init : goal.loop-j-init
loop-j-init c = (c.search.invariant.0, sym (ap judged (up_start (pair_causes _ _ _) _)))

pub loop-j-preserved : goal.loop-j-preserved
loop-j-preserved c =
    let l = c.loop-j in
    let i = c.search.i in (
      l.invariant.0,
      l.invariant.1 ∙ one-fails (triple_differs _ _ i) _ l.j c.loop-j-test.true (triple-test _ _ i l.j (sym c.associative.ensures ∙ c.if-not-associative.false)),
    )

pub search-preserved : goal.search-preserved
search-preserved c =
    let l = c.loop-j in
    let s = c.search in
    (l.invariant.0, s.invariant.1 ∙ none_here (row_causes _ _) _ s.i c.search-test.true ((l.invariant.1 ∙ none_left (pair_causes _ _ s.i) _ l.j (omega arith))))

pub returns-after-search : goal.returns-after-search
returns-after-search c = let s = c.search in s.invariant.0 ∙ sym (s.invariant.1 ∙ none_left (row_causes _ _) _ s.i (omega arith))

pub returns-then-not-associative : goal.returns-then-not-associative
returns-then-not-associative c =
    let l = c.loop-j in
    let s = c.search in
    let differs = triple-test _ _ s.i l.j (sym c.associative.ensures ∙ c.if-not-associative.true) in
    let row = l.invariant.1 ∙ one_found (triple_differs _ _ s.i) _ l.j c.loop-j-test.true differs in
    sym (s.invariant.1 ∙ found_here (row_causes _ _) _ s.i c.search-test.true row)
