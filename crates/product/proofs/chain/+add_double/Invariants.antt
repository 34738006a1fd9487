-- `product::chain::double` and `product::chain::add` call each other: the measure is the number of digits still unread.
use Rattle.std.proofs.Common.{◌+◌, ◌*◌}
use Rattle.product.proofs.chain.+add_double.Given as goal

abbrev pub decreases-add : goal.decreases-add
decreases-add l = l.unread * 2 + 1

abbrev pub decreases-double : goal.decreases-double
decreases-double l = l.unread * 2
