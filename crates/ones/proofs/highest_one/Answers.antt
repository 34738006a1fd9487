-- `ones::highest_one` meets its contract.
use Rattle.std.proofs.Common.{arith, sym}
use Rattle.gf2.proofs.Logarithm.{log2-small}
use Rattle.ones.proofs.RowLimbs.{log2-only}
use Rattle.ones.proofs.highest_one.Goals as goal

pub returns-then-n-eq0 : goal.returns-then-n-eq0
returns-then-n-eq0 c = sym (log2-small c.args.n (omega arith))

pub returns-else-n-eq0 : goal.returns-else-n-eq0
returns-else-n-eq0 c = log2-only c.args.n _ c.ilog2.ensures.power_le c.ilog2.ensures.next_power_gt
