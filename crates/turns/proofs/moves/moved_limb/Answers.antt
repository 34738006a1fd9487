-- `turns::moves::moved_limb` meets its contract.
use mathlib.Core.Path.{sym, ◌∙◌}
use borrow.Author.Tests.{leb-true, leb-false}
use Rattle.gf2.proofs.Operands.{below_in, below_out}
use Rattle.turns.proofs.moves.moved_limb.Goals as goal

pub returns-then-is_past : goal.returns-then-is_past
returns-then-is_past g c = rw (c.if-this-ne0.false) (sym (below_out _ _ _ (leb-true _ _ (sym c.is_past.ensures ∙ c.if-is_past.true))))

pub returns : goal.returns
returns g c = rw (c.if-this-ne0.false) (c.limb_at.ensures ∙ sym (below_in _ _ _ (leb-false _ _ (sym c.is_past.ensures ∙ c.if-is_past.false))))
