-- `equivalence::comparison::Comparison::judge_outputs` meets its contract. The invariant: the outputs before r are right.
use mathlib.Core.Path.{◌≡◌}
use mathlib.Core.List.{[], ◌∷◌}
use Rattle.judging.specs.Causes.{judged}
use Rattle.judging.proofs.Searches.{up_to}
use Rattle.equivalence.specs.Causes.{wrong_output, output_causes}
use Rattle.equivalence.proofs.comparison.Comparison.judge_outputs.Given as goal

abbrev pub invariant-loop-r : goal.invariant-loop-r
invariant-loop-r l =
    judged (output_causes l.self.list.width l.self.table.bytes.now l.self.list.words.now) ≡ judged (up_to (λ r'. wrong_output l.self.list.width l.self.table.bytes.now l.self.list.words.now r' ∷ []) l.self.list.width l.r)
