-- `judging::parts::judge_width` meets its contract.
use Rattle.judging.specs.Causes.{judged}
use Rattle.judging.proofs.Tests.{tests}
use Rattle.judging.proofs.parts.judge_width.Goals as goal

pub returns-then-width-lt2 : goal.returns-then-width-lt2
unfolding judged
returns-then-width-lt2 c = search tests

pub returns-then-width-gt-MAX_WIDTH : goal.returns-then-width-gt-MAX_WIDTH
unfolding judged
returns-then-width-gt-MAX_WIDTH c = search tests

pub returns : goal.returns
unfolding judged
returns c = search tests
