-- `table::symmetry::SymmetricTable::search_triples` meets its contract.
use Rattle.std.specs.Prelude.{Ok}
use mathlib.Core.Path.{◌≡◌}
use Rattle.judging.specs.Causes.{judged}
use Rattle.judging.proofs.Searches.{up_to}
use Rattle.table.specs.Judgements.{triple_verdict}
use Rattle.table.proofs.Rules.{pair_causes, row_causes}
use Rattle.table.proofs.symmetry.SymmetricTable.search_triples.Given as goal

abbrev pub invariant-loop-j : goal.invariant-loop-j
invariant-loop-j l = (l.verdict ≡ Ok tt) × (judged (row_causes l.self.table.width l.self.table.bytes.now l.i) ≡ judged (up_to (pair_causes l.self.table.width l.self.table.bytes.now l.i) l.self.table.width l.j))

abbrev pub invariant-search : goal.invariant-search
invariant-search l = (l.verdict ≡ Ok tt) × (triple_verdict l.self.table.width l.self.table.bytes.now ≡ judged (up_to (row_causes l.self.table.width l.self.table.bytes.now) l.self.table.width l.i))
