-- `product::judge::judge_rules` meets its contract.
use Rattle.judging.specs.Causes.{judged}
use Rattle.product.proofs.judge.judge_rules.Goals as goal

pub returns-in-Plain : goal.returns-in-Plain
unfolding judged
returns-in-Plain c = rw c.in-Plain.is

pub returns-in-Reduced : goal.returns-in-Reduced
returns-in-Reduced c = rw c.in-Reduced.is c.judge_rules.ensures
