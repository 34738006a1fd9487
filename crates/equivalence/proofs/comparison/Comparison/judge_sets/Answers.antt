-- `equivalence::comparison::Comparison::judge_sets` meets its contract.
use Rattle.equivalence.proofs.SquareLaws.{gathered_none}
use Rattle.equivalence.proofs.comparison.Comparison.judge_sets.Goals as goal

pub fill_sets-requires : goal.fill_sets-requires
fill_sets-requires c = gathered_none _ _
