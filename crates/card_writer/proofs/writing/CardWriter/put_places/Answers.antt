-- `card_writer::writing::CardWriter::put_places` meets its contract.
use mathlib.Core.Path.{◌≡◌}
use Prim.Native.Nat.{suc, ◌+◌, ◌-◌}
use native.Mathlib.Nat.{sub-zero}
use native.Mathlib.Omega.{arith}
use Rattle.card_writer.proofs.WriteSteps.{steps-start, steps_next, steps-room, steps-more, steps-done}
use Rattle.card_writer.proofs.writing.CardWriter.put_places.Goals as goal
use Rattle.card_writer.proofs.writing.CardWriter.put_places.Goals.{After-next_one-i}

-- this place is left, and the others
left : (c : After-next_one-i) → c.args.count - c.loop.counter ≡ suc (c.args.count - (c.loop.counter + 1))
left c = let w = c.loop-test.true in omega arith

pub loop-init : goal.loop-init
loop-init c = rw sub-zero (steps-start _ _ c.requires.0)

pub overflow_sub-i : goal.overflow_sub-i
overflow_sub-i c = (steps_next c.loop.invariant (left (goal.at.overflow_sub-i c).After-next_one-i) c.next_one-i.ensures).above

pub put_number-requires : goal.put_number-requires
put_number-requires c =
    let h = left (goal.at.put_number-requires c).After-next_one-i in
    let e = c.next_one-i.ensures in
    (omega (arith, (steps_next c.loop.invariant h e).within), steps-room c.loop.invariant h e c.requires.1)

pub overflow_add-free : goal.overflow_add-free
overflow_add-free c =
    omega (arith, (steps_next c.loop.invariant (left (goal.at.overflow_add-free c).After-next_one-i) c.next_one-i.ensures).within)

pub loop-preserved : goal.loop-preserved
loop-preserved c =
    steps-more c.loop.invariant (left (goal.at.loop-preserved c).After-next_one-i) c.next_one-i.ensures c.put_number.ensures

pub returns : goal.returns
returns c = steps-done c.loop.invariant (omega arith)
