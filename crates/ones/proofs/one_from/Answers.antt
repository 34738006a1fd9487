-- `ones::one_from` meets its contract.
use Rattle.std.proofs.Common.{◌/◌, ◌^◌, arith}
use lib.Count.{trailing_le}
use Rattle.ones.proofs.RowLimbs.{from-none, from_some}
use Rattle.ones.proofs.one_from.Goals as goal

pub returns-then-left-eq0 : goal.returns-then-left-eq0
returns-then-left-eq0 c = from-none _ _ c.requires c.if-left-eq0.true

pub overflow_cast-result : goal.overflow_cast-result
overflow_cast-result c = let a = c.args in omega (arith, trailing_le 64 (a.limb / 2 ^ a.s))

pub overflow_add-result : goal.overflow_add-result
overflow_add-result c = let a = c.args in omega (arith, trailing_le 64 (a.limb / 2 ^ a.s))

pub returns : goal.returns
returns c = from_some _ _ c.requires c.ranges.limb.fits c.if-left-eq0.false
