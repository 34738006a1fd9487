-- `equivalence::gates::in_form` meets its contract.
use mathlib.Core.Path.{sym, ◌∙◌}
use Rattle.equivalence.proofs.GateLaws.{and-this, and-other, xor-input, xor-gate}
use Rattle.equivalence.proofs.gates.in_form.Goals as goal

pub returns-then-is_pair : goal.returns-then-is_pair
returns-then-is_pair c = and-this _ _ _ _ c.if-kind-eq0.true (sym c.is_pair.ensures ∙ c.if-is_pair.true)

pub returns-then-kind-eq0 : goal.returns-then-kind-eq0
returns-then-kind-eq0 c = c.is_pair-then-kind-eq0.ensures ∙ and-other _ _ _ _ c.if-kind-eq0.true (sym c.is_pair.ensures ∙ c.if-is_pair.false)

pub returns-then-left-width : goal.returns-then-left-width
returns-then-left-width c = xor-input _ _ _ _ c.if-kind-eq0.false c.if-left-width.true

pub returns : goal.returns
returns c = xor-gate _ _ _ _ c.if-kind-eq0.false c.if-left-width.false
