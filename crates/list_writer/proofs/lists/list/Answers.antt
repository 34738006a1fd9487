-- `list_writer::lists::list` meets its contract.
use mathlib.Core.Path.{◌≡◌, ap}
use Prim.Native.Nat.{◌+◌, ◌*◌, ◌<◌}
use native.Mathlib.Omega.{arith}
use Rattle.gf2.specs.Check.{Symmetric}
use Rattle.judging.proofs.CauseLaws.{handed_on, verdict_err, verdict_ok}
use Rattle.table.specs.Rows.{Shaped}
use Rattle.netlist.specs.declared.Tallied.{Tallied}
use Rattle.netlist.specs.Gates.{word_limit}
use Rattle.netlist.specs.Methods.{list_by, tallied}
use Rattle.list_writer.proofs.CallLaws.{words-few, words-counted, list-refused, list-short, list-fits}
use Rattle.list_writer.proofs.lists.list.Goals as goal
use Rattle.list_writer.proofs.lists.list.Goals.{After-tally_of-tally}

pub returns-in_err-table : goal.returns-in_err-table
returns-in_err-table c =
    let a = c.args in
    let x = list-refused a.width a.table.now (list_by a.method a.width a.table.now) a.out.now (verdict_err c.new.ensures.verdict c.in_err-table.was) in
    (handed_on c.from_residual.result c.from_residual.ensures.1 x.0, x.1)

-- the table has passed, and its gates are counted
counted : (c : After-tally_of-tally) → let a = c.args in Shaped a.width a.table.now × Symmetric a.width a.table.now × (c.tally_of-tally.result ≡ tallied a.method a.width a.table.now)
counted c =
    let s = c.in_ok-table.table in
    let same = c.in_ok-table.ensures.same in
    (rw (same.0, same.1) at s.table.shaped, rw (same.0, same.1) at s.symmetric, rw (same.0, same.1) at c.tally_of-tally.ensures)

-- the words of the list are few
few : (c : After-tally_of-tally) → 3 * c.tally_of-tally.result.gates + c.args.width * c.args.width + 3 * c.args.width + 2 < word_limit
few c = let k = counted c in words-few c.args.method k.0 k.1 k.2

pub overflow_mul-g : goal.overflow_mul-g
overflow_mul-g c = omega (arith, few c)

pub overflow_add-g : goal.overflow_add-g
overflow_add-g c = omega (arith, few c)

pub overflow_add-g-2 : goal.overflow_add-g-2
overflow_add-g-2 c = omega (arith, few c)

pub returns-then-out-g : goal.returns-then-out-g
returns-then-out-g c =
    let a = c.args in
    let k = counted (goal.at.returns-then-out-g c).After-tally_of-tally in
    list-short a.width a.table.now (list_by a.method a.width a.table.now) a.out.now (verdict_ok c.new.ensures.verdict c.in_ok-table.was)
    (omega (arith, words-counted a.method k.0 k.1 k.2, c.if-out-g.true))

pub put_list-requires : goal.put_list-requires
put_list-requires c = (c.tally_of-tally.ensures, omega (arith, c.if-out-g.false, c.in_ok-table.ensures.same.0))

pub returns : goal.returns
returns c =
    let a = c.args in
    let same = c.in_ok-table.ensures.same in
    let k = counted (goal.at.returns c).After-tally_of-tally in
    list-fits a.width a.table.now (list_by a.method a.width a.table.now) a.out.now (verdict_ok c.new.ensures.verdict c.in_ok-table.was)
    (omega (arith, words-counted a.method k.0 k.1 k.2, c.if-out-g.false)) (ap (λ (t : Tallied). t.counts) k.2) (rw (same.0, same.1) at c.put_list.ensures)
