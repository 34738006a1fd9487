-- `list_writer::lists::put_sharing` meets its contract.
use Rattle.list_writer.proofs.ListLaws.{sharing-written}
use Rattle.list_writer.proofs.lists.put_sharing.Goals as goal

pub returns : goal.returns
returns c =
    let w = c.width-width.ensures in
    sharing-written c.args.table.now.shaped (rw w at c.put_pairs-ands.ensures) c.args.ends.now c.requires
    (c.put_folds-n.ensures.gates_put, c.put_folds-n.ensures.ends_after)
    (rw w at c.put_folds.ensures.gates_put, rw w at c.put_folds.ensures.ends_after)
