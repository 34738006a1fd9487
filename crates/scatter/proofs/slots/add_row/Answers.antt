-- `scatter::slots::add_row` meets its contract.
use mathlib.Core.Path.{sym, ◌∙◌}
use native.Mathlib.Omega.{arith}
use borrow.Author.Rules.{rules}
use Rattle.limbs.specs.Limbs.{few}
use Rattle.limbs.proofs.Reach.{reach_few, reach-all}
use Rattle.scatter.specs.Cells.{Added, limbs_add}
use Rattle.scatter.proofs.OnesLaws.{row-none, row-equal, row-missing}
use Rattle.scatter.proofs.slots.add_row.Goals as goal
use Rattle.scatter.proofs.slots.add_row.Goals.{After-add_limbs}

-- the few are added
few-added : (c : After-add_limbs) → let a = c.args in Added (limbs_add a.m a.e a.row.now few) a.g.now c.add_limbs.new.g
few-added c = let a = c.args in c.add_limbs.ensures _ (row-none a.m a.e a.row.now a.g.now)

pub returns-then-g-ne-ROOM : goal.returns-then-g-ne-ROOM
returns-then-g-ne-ROOM c = row-missing _ _ _ _ (λ k. search rules) c.if-g-ne-ROOM.true

pub add_limbs-requires : goal.add_limbs-requires
add_limbs-requires c = (c.if-g-ne-ROOM.false, omega arith, omega arith)

pub shape_of-g-then-m : goal.shape_of-g-then-m
shape_of-g-then-m c = (few-added (goal.at.shape_of-g-then-m c).After-add_limbs).size

pub returns-then-m : goal.returns-then-m
returns-then-m c =
    let m = c.args.m in
    row-equal _ _ _ (sym (reach_few m (omega (arith, c.if-m.true)))) (λ k. search rules) c.if-g-ne-ROOM.false (few-added (goal.at.returns-then-m c).After-add_limbs)

pub add_limbs-requires-2 : goal.add_limbs-requires-2
add_limbs-requires-2 c = ((few-added (goal.at.add_limbs-requires-2 c).After-add_limbs).size ∙ c.if-g-ne-ROOM.false, omega arith, omega arith)

pub shape_of-g : goal.shape_of-g
shape_of-g c = (c.add_limbs-2.ensures _ (few-added (goal.at.shape_of-g c).After-add_limbs)).size

pub returns : goal.returns
returns c =
    let m = c.args.m in
    row-equal _ _ _ (sym (reach-all m (omega (arith, c.if-m.false)))) (λ k. search rules) c.if-g-ne-ROOM.false
    (c.add_limbs-2.ensures _ (few-added (goal.at.returns c).After-add_limbs))
