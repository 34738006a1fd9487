-- `table::sums::wrapped` meets its contract.
use mathlib.Core.Path.{sym, ◌∙◌}
use native.Mathlib.Nat.{mod-eq_of_lt, mod-eq-sub-mod}
use native.Mathlib.Omega.{arith}
use Rattle.table.proofs.sums.wrapped.Goals as goal

pub returns-then-place-width : goal.returns-then-place-width
returns-then-place-width c = sym (mod-eq_of_lt c.if-place-width.true)

pub returns-else-place-width : goal.returns-else-place-width
returns-else-place-width c = sym (mod-eq-sub-mod c.if-place-width.false ∙ mod-eq_of_lt (omega arith))
