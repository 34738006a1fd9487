-- `list_writer::lists::put_reduced` meets its contract.
use Rattle.list_writer.proofs.ListLaws.{reduced-written}
use Rattle.list_writer.proofs.lists.put_reduced.Goals as goal

pub returns : goal.returns
returns c =
    let w = c.width-width.ensures in
    reduced-written c.args.table.now.shaped (rw w at c.put_pairs-ands.ensures) (rw w at c.put_pairs-n.ensures)
    (rw w at c.put_folds.ensures.gates_put, rw w at c.put_folds.ensures.ends_after)
