-- `list_writer::lists::put_list` meets its contract.
use mathlib.Core.Path.{◌≡◌, ap, ◌∙◌, subst}
use mathlib.Core.List.{List}
use Prim.Native.Nat.{ℕ, ◌+◌, ◌-◌, ◌*◌, ◌≤◌}
use native.Mathlib.Omega.{arith}
use lib.ListN.{length, set, length-set}
use lib.Seq.{sets, length-take-le}
use Rattle.table.specs.declared.shaped.Table.{Table}
use Rattle.netlist.specs.declared.counts.Method.{Method}
use Rattle.netlist.specs.Methods.{list_by}
use Rattle.list_writer.specs.Inner.{Written}
use Rattle.list_writer.proofs.CallLaws.{sized, gates-counted, words-few}
use Rattle.list_writer.proofs.ListLaws.{outputs-length, copied_sets, list_done}
use Rattle.list_writer.proofs.lists.put_list.Goals as goal

-- what is written of a table is written of the same one
written-of : (method : Method) {t u : Table} {old wires out sums : List ℕ} → t ≡ u → Written (list_by method t.width t.bytes.now) old wires out sums → Written (list_by method u.width u.bytes.now) old wires out sums
written-of method {old = old} {wires = wires} {out = out} {sums = sums} e w = subst (λ (t : Table). Written (list_by method t.width t.bytes.now) old wires out sums) e w

pub overflow_cast-out-2 : goal.overflow_cast-out-2
overflow_cast-out-2 c =
    let s = c.args.table.now in
    omega (arith, words-few c.args.method s.table.shaped s.symmetric c.requires.0)

pub returns : goal.returns
returns c =
    let a = c.args in
    let s = a.table.now in
    let h = s.table.shaped in
    let m = s.table.width in
    let w : c.width-width.result ≡ m = rw c.table-rows.ensures at c.width-width.ensures in
    let put = written-of a.method c.table-rows.ensures c.put_gates.ensures in
    let q = 2 + 3 * a.tally.gates in
    let most : m ≤ length c.put_gates.new.ends = omega (arith, outputs-length put, h.greatest) in
    let after = rw w at c.copy_from_slice.ensures.after in
    let n : q + m - q ≡ length c.copy_from_slice.new.self = omega (arith, ap length after, length-take-le m c.put_gates.new.ends most) in
    rw w (
    copied_sets c.put_gates.new.out c.copy_from_slice.new.self q (q + m - q) n (omega (arith, c.requires.1, c.put_gates.auto.out, length-set {A = ℕ}))
    ∙ list_done (sized a.method h s.symmetric c.requires.0) a.out.now (gates-counted a.method h s.symmetric c.requires.0) (ap (λ z. set (set a.out.now 0 z) 1 a.tally.gates) w) put
    (omega (arith, h.greatest)) (ap (sets c.put_gates.new.out q) after) c.requires.1
    )
