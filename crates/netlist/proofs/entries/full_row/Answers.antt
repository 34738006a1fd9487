-- `netlist::entries::full_row` meets its contract.
use Rattle.netlist.proofs.TableLaws.{full-count}
use Rattle.netlist.proofs.entries.full_row.Goals as goal

pub returns : goal.returns
returns c = rw c.width.ensures (full-count c.args.d c.args.table.now.shaped (rw c.row.ensures at c.ones_of.ensures))
