-- `judging::parts::judge_high` meets its contract.
use mathlib.Core.Path.{sym, ◌∙◌}
use Rattle.judging.specs.Causes.{judged}
use Rattle.judging.proofs.parts.judge_high.Goals as goal

pub returns-then-is_clear : goal.returns-then-is_clear
unfolding judged
returns-then-is_clear c = rw (sym c.is_clear.ensures ∙ c.if-is_clear.true)

pub returns-else-is_clear : goal.returns-else-is_clear
unfolding judged
returns-else-is_clear c = rw (sym c.is_clear.ensures ∙ c.if-is_clear.false)
