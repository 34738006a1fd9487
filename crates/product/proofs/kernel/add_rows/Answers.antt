-- `product::kernel::add_rows` meets its contract. The invariant: the rows before d are added.
use mathlib.Core.Path.{◌≡◌, refl, ◌∙◌}
use Prim.Native.Nat.{◌-◌}
use native.Mathlib.Omega.{arith}
use Rattle.product.proofs.KernelLaws.{rows_none, rows_more}
use Rattle.product.proofs.kernel.add_rows.Goals as goal

pub loop-d-init : goal.loop-d-init
loop-d-init c =
    let a = c.args in
    let none : a.from - a.from ≡ 0 = omega arith in
    (rw none (rows_none a.method a.width a.table.now a.x a.y a.from a.g.now), refl)

pub loop-d-preserved : goal.loop-d-preserved
loop-d-preserved c =
    let i = c.loop-d.invariant in
    let a = c.args in
    let line = c.add_line.ensures in (
      rows_more a.method a.width a.table.now a.x a.y a.from c.requires.0 c.requires.1 c.requires.2 c.loop-d.d (omega arith) (omega arith)
          c.twice-xx.ensures c.twice-yy.ensures c.is_one_way-once.ensures c.met-e.ensures i.0 line,
      line.size ∙ i.1,
    )

pub returns : goal.returns
returns c =
    let l = c.loop-d in
    let all : l.d - c.args.from ≡ c.args.count = omega arith in
    rw all at l.invariant.0
