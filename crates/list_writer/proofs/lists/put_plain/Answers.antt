-- `list_writer::lists::put_plain` meets its contract.
use Rattle.list_writer.proofs.ListLaws.{plain-written}
use Rattle.list_writer.proofs.lists.put_plain.Goals as goal

pub returns : goal.returns
returns c =
    let w = c.width-width.ensures in
    plain-written c.args.table.now.shaped (rw w at c.put_pairs-n.ensures) (rw w at c.put_folds.ensures.gates_put, rw w at c.put_folds.ensures.ends_after)
