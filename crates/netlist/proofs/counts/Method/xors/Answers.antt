-- `netlist::counts::Method::xors` meets its contract.
use Rattle.netlist.proofs.counts.Method.xors.Goals as goal

pub returns-in-Plain : goal.returns-in-Plain
returns-in-Plain c = rw c.in-Plain.is c.plain_xors.ensures

pub returns-in-Reduced : goal.returns-in-Reduced
returns-in-Reduced c = rw c.in-Reduced.is c.reduced_xors.ensures

pub returns-in-Common : goal.returns-in-Common
returns-in-Common c = rw c.in-Common.is c.common_xors.ensures
