-- `scatter::slots::ends_twice` meets its contract.
use borrow.Author.Rules.{rules}
use Rattle.scatter.specs.Cells.{twice_ends_at}
use Rattle.scatter.proofs.slots.ends_twice.Goals as goal

pub returns-then-w : goal.returns-then-w
unfolding twice_ends_at
returns-then-w c = search rules

pub returns-else-w : goal.returns-else-w
unfolding twice_ends_at
returns-else-w c = search rules
