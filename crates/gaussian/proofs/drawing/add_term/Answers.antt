-- `gaussian::drawing::add_term` meets its contract.
use mathlib.Core.Path.{sym, ◌∙◌}
use Rattle.gaussian.proofs.TermLaws.{term_in, term-out}
use Rattle.gaussian.proofs.drawing.add_term.Goals as goal

pub returns-then-in_k : goal.returns-then-in_k
returns-then-in_k c = term_in _ _ _ _ (sym c.in_k.ensures ∙ c.if-in_k.true) c.add_images.ensures

pub returns-else-in_k : goal.returns-else-in_k
returns-else-in_k c = term-out _ _ _ _ _ (sym c.in_k.ensures ∙ c.if-in_k.false)
