-- `judging::parts::judge_length` meets its contract.
use Rattle.judging.specs.Causes.{judged}
use Rattle.judging.proofs.Tests.{tests}
use Rattle.judging.proofs.parts.judge_length.Goals as goal

pub returns-then-given-laid_down : goal.returns-then-given-laid_down
unfolding judged
returns-then-given-laid_down c = search tests

pub returns-else-given-laid_down : goal.returns-else-given-laid_down
unfolding judged
returns-else-given-laid_down c = search tests
