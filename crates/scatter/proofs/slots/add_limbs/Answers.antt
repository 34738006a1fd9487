-- `scatter::slots::add_limbs` meets its contract.
use mathlib.Core.Path.{refl, ◌∙◌}
use native.Mathlib.Omega.{arith}
use Rattle.scatter.proofs.OnesLaws.{row_more, row-all}
use Rattle.scatter.proofs.slots.add_limbs.Goals as goal

pub loop-q-init : goal.loop-q-init
loop-q-init g c = (refl, λ b p. p)

pub add_limb-requires : goal.add_limb-requires
add_limb-requires g c = (c.loop-q.invariant.0 ∙ c.requires.0, omega arith)

pub loop-q-preserved : goal.loop-q-preserved
loop-q-preserved g c =
    let l = c.loop-q in
    let a = c.args in
    let added = c.add_limb.ensures in
    (added.size ∙ l.invariant.0, λ b p. row_more a.m a.e a.row.now l.q (omega arith) c.carried_limb-limb.ensures (l.invariant.1 b p) added)

pub shape_of-g : goal.shape_of-g
shape_of-g g c = c.loop-q.invariant.0

pub returns : goal.returns
returns g c = λ b p. let a = c.args in row-all a.m a.e a.row.now (omega arith) (c.loop-q.invariant.1 b p)
