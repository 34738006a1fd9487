-- `netlist::counts::Method::shared` meets its contract.
use Rattle.netlist.proofs.counts.Method.shared.Goals as goal

pub returns-in-Common : goal.returns-in-Common
returns-in-Common c = rw c.in-Common.is c.full_rows.ensures.0
