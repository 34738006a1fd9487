-- `list_folds::reading::Columns::next_one` meets its contract.
use Prim.Native.Nat.{◌+◌, ◌/◌, ◌^◌, ◌<◌}
use native.Mathlib.Omega.{arith}
use lib.ListN.{get_or}
use Rattle.list_folds.proofs.ColumnLaws.{found-one, later-one, first-after}
use Rattle.list_folds.proofs.reading.Columns.next_one.Goals as goal

pub returns-then-left-ne0 : goal.returns-then-left-ne0
returns-then-left-ne0 c =
    let a = c.args in
    let limbs = a.self.now.limbs.now in
    let small : get_or limbs (a.at + a.from / 64) 0 < 2 ^ 64 = omega arith in
    found-one limbs a.at a.from small c.if-left-ne0.true c.requires.0 c.min.ensures

pub returns : goal.returns
returns c =
    let a = c.args in
    let z = a.self.now.readable in
    later-one a.self.now.limbs.now a.at a.from c.if-left-ne0.false (first-after a.at a.from c.requires.0 (omega (arith, z.room.greatest)) c.requires.2 z.after) c.requires.2 (omega (arith, z.room.greatest)) c.requires.0 c.min-2.ensures
