-- `list_writer::lists::put_gates` meets its contract.
use Rattle.list_writer.proofs.CallLaws.{list-none, list-some}
use Rattle.list_writer.proofs.lists.put_gates.Goals as goal

pub returns-then-full-eq0 : goal.returns-then-full-eq0
returns-then-full-eq0 c =
    rw (list-none _ _ c.requires.0 c.in-Common.is c.if-full-eq0.true) c.put_plain-then-full-eq0.ensures

pub returns-else-full-eq0 : goal.returns-else-full-eq0
returns-else-full-eq0 c =
    rw (list-some _ _ c.requires.0 c.in-Common.is c.if-full-eq0.false) c.put_sharing.ensures
