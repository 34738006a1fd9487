-- `judging::parts::judge_high_carried` meets its contract.
use mathlib.Core.Path.{sym, ◌∙◌}
use Rattle.judging.specs.Causes.{judged}
use Rattle.judging.proofs.parts.judge_high_carried.Goals as goal

pub returns-then-is_clear_carried : goal.returns-then-is_clear_carried
unfolding judged
returns-then-is_clear_carried c = rw (sym c.is_clear_carried.ensures ∙ c.if-is_clear_carried.true)

pub returns-else-is_clear_carried : goal.returns-else-is_clear_carried
unfolding judged
returns-else-is_clear_carried c = rw (sym c.is_clear_carried.ensures ∙ c.if-is_clear_carried.false)
