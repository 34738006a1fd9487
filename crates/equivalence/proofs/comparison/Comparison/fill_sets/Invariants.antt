-- `equivalence::comparison::Comparison::fill_sets` meets its contract. The invariant: the squares before k are filled.
use Rattle.equivalence.specs.Inner.{Gathered}
use Rattle.equivalence.proofs.comparison.Comparison.fill_sets.Given as goal

abbrev pub invariant-loop-k : goal.invariant-loop-k
invariant-loop-k l = Gathered l.self.list.width l.self.list.words.now l.k l.sets
