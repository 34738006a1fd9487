-- `ones::next_one` meets its contract.
use Rattle.std.proofs.Common.{refl, ◌∙◌}
use Rattle.ones.proofs.RowLimbs.{next-none, next-some, next_past}
use Rattle.ones.proofs.next_one.Goals as goal

pub loop-i-init : goal.loop-i-init
loop-i-init c = refl

pub returns-then-j-lt64 : goal.returns-then-j-lt64
returns-then-j-lt64 c = next-some _ c.loop-i.i _ c.loop-i-test.true c.one_from-j.ensures c.if-j-lt64.true ∙ c.loop-i.invariant

pub loop-i-preserved : goal.loop-i-preserved
loop-i-preserved c = next-none _ c.loop-i.i _ c.loop-i-test.true c.one_from-j.ensures c.if-j-lt64.false ∙ c.loop-i.invariant

pub returns : goal.returns
returns c = next_past _ c.loop-i.i c.loop-i-test.false ∙ c.loop-i.invariant
