-- `table::shaped::Table::row` meets its contract.
use Rattle.table.proofs.Shapes.{row-part, row-none}
use Rattle.table.proofs.shaped.Table.row.Goals as goal

pub returns-then-self-d : goal.returns-then-self-d
returns-then-self-d c = row-none c.args.self.now.shaped c.args.d c.if-self-d.true

pub returns : goal.returns
returns c = row-part _ _ _ c.bytes_for-size.ensures
