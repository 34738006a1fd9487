-- `netlist::counts::tally_of` meets its contract.
use mathlib.Core.Path.{◌≡◌, ap₂, ◌∙◌}
use Rattle.gf2.specs.Tables.{ones_in}
use Rattle.netlist.specs.Methods.{xors_by, gates_by}
use Rattle.netlist.proofs.TableLaws.{ones-counted}
use Rattle.netlist.proofs.CallLaws.{countable, number_by, gates-by, tally-counted}
use Rattle.netlist.proofs.counts.tally_of.Goals as goal
use Rattle.netlist.proofs.counts.tally_of.Goals.{After-ones_of}

ones : (c : After-ones_of) → let t = c.args.table.now.table in c.ones_of.result ≡ ones_in t.width t.bytes.now
ones c = ones-counted c.args.table.now.table.shaped (rw (c.bytes.ensures, c.table-rows.ensures) at c.ones_of.ensures)

pub invariant_of-ones : goal.invariant_of-ones
invariant_of-ones c =
    let s = c.args.table.now in
    record { countable = rw (c.shared.ensures, c.width-width.ensures, c.table-rows.ensures) (countable c.args.method s.table.shaped s.symmetric (ones (goal.at.invariant_of-ones c).After-ones_of)) }

pub returns : goal.returns
returns c =
    let method = c.args.method in
    let t = c.args.table.now.table in
    let h = t.shaped in
    let y = c.args.table.now.symmetric in
    let o = ones (goal.at.returns c).After-ones_of in
    let q = rw c.table-rows.ensures at c.shared.ensures in
    let w = rw c.table-rows.ensures at c.width-width.ensures in
    rw w (tally-counted method t.width t.bytes.now (gates-by t.width t.bytes.now h.least h.is_table y method) (rw w at c.xors.ensures ∙ ap₂ (xors_by method t.width) o q)
    (rw w at c.gates.ensures ∙ ap₂ (gates_by method t.width) o q ∙ number_by t.width t.bytes.now h.least h.is_table y method) q)
