-- `list_folds::columns::first_from` meets its contract.
use Prim.Native.Nat.{◌^◌, ◌<◌}
use native.Mathlib.Omega.{arith}
use lib.ListN.{get_or}
use Rattle.list_folds.proofs.ColumnLaws.{first-later, first-here}
use Rattle.list_folds.proofs.columns.first_from.Goals as goal

pub returns-then-limb-eq0 : goal.returns-then-limb-eq0
returns-then-limb-eq0 c = first-later c.args.columns.now c.args.k c.if-limb-eq0.true c.requires.2

pub returns : goal.returns
returns c =
    let small : get_or c.args.columns.now c.args.k 0 < 2 ^ 64 = omega arith in
    first-here c.args.columns.now c.args.k small c.requires.0 c.if-limb-eq0.false
