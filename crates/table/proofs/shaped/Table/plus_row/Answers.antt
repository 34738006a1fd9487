-- `table::shaped::Table::plus_row` meets its contract.
use mathlib.Core.Path.{◌≡◌, ◌∙◌}
use Prim.Native.Nat.{◌+◌, ◌-◌, ◌*◌, ◌≤◌}
use native.Mathlib.Omega.{arith}
use lib.ListN.{length}
use Rattle.gf2.specs.Operands.{bytes_for, carried_bytes}
use Rattle.table.proofs.RowsAtOnes.{plus-whole, plus-part}
use Rattle.table.proofs.shaped.Table.plus_row.Goals as goal

pub returns-then-from-self : goal.returns-then-from-self
returns-then-from-self c =
    let a = c.args in
    let t = a.self.now in
    let n : a.d * bytes_for t.width + carried_bytes - a.d * bytes_for t.width ≡ carried_bytes = omega arith in
    let h : a.d * bytes_for t.width + carried_bytes ≤ length t.bytes.now = rw c.bytes_for.ensures at c.if-from-self.true in
    plus-part t.shaped.greatest t.bytes.now a.d a.total h (c.plus_bytes.ensures ∙ rw (c.bytes_for.ensures, n))

pub returns : goal.returns
returns c = let a = c.args in plus-whole a.self.now.shaped.greatest a.self.now.bytes.now a.d a.total (c.plus_each.ensures ∙ rw c.row.ensures)
