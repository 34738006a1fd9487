-- `turns::within` meets its contract.
use mathlib.Core.Path.{refl, sym}
use native.Mathlib.Nat.{mod-eq_of_lt}
use borrow.Author.Rules.{rules}
use Rattle.turns.proofs.within.Goals as goal

pub returns-then-k-m : goal.returns-then-k-m
returns-then-k-m c = sym (mod-eq_of_lt c.if-k-m.true)

pub nonzero_rem-result : goal.nonzero_rem-result
nonzero_rem-result c = search rules

pub returns : goal.returns
returns c = refl
