-- `netlist::counts::all_counts` meets its contract.
use Rattle.judging.proofs.CauseLaws.{handed_on, verdict_err, verdict_ok, answer-given, answer-refused}
use Rattle.netlist.proofs.counts.all_counts.Goals as goal

pub returns-in_err-table : goal.returns-in_err-table
returns-in_err-table c = handed_on c.from_residual.result c.from_residual.ensures.1 (answer-refused _ (verdict_err c.new.ensures.verdict c.in_err-table.was))

pub returns : goal.returns
returns c =
    let same = c.in_ok-table.ensures.same in
    rw (c.tally_of.ensures, c.tally_of-2.ensures, c.tally_of-3.ensures, same.0, same.1) (answer-given _ (verdict_ok c.new.ensures.verdict c.in_ok-table.was))
