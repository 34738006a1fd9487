-- `gaussian::drawing::add_image` meets its contract.
use Rattle.gaussian.proofs.LogLaws.{gives-odd, gives-even, gives-log, gives_none}
use Rattle.gaussian.proofs.AddLaws.{row-none, row_same}
use Rattle.gaussian.proofs.drawing.add_image.Goals as goal

pub returns-then-t-eq1 : goal.returns-then-t-eq1
returns-then-t-eq1 c = row_same _ _ _ _ c.flip_row.ensures (λ i l. gives-odd _ _ _ i c.if-x-eq0.true c.if-t-eq1.true)

pub returns-else-t-eq1 : goal.returns-else-t-eq1
returns-else-t-eq1 c = row-none _ _ _ _ (λ i l. gives-even _ _ _ i c.if-x-eq0.true c.if-t-eq1.false)

pub returns-in-Some : goal.returns-in-Some
returns-in-Some c =
    let p = c.args.logs.now.modulus in
    row_same _ _ _ _ c.flip.ensures (gives-log p.drawable p.made c.requires.1 c.if-x-eq0.false (rw c.in-Some.is at c.logarithm.ensures))

pub returns-in_default : goal.returns-in_default
returns-in_default c =
    let p = c.args.logs.now.modulus in
    row-none _ _ _ _ (gives_none p.drawable p.made c.requires.1 c.if-x-eq0.false (rw c.in_default.is at c.logarithm.ensures))
