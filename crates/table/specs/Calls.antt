-- What each call on a table answers, for every input. `check` answers check_verdict of Judgements.
use Rattle.std.specs.Prelude.{List, ℕ, Result}
use Rattle.gf2.specs.Tables.{ones_in}
use Rattle.judging.specs.declared.fault.Fault.{Fault}
use Rattle.judging.specs.Causes.{answered}
use Rattle.table.specs.Judgements.{shape_verdict}

-- "C is the number of ones in the table"
abbrev pub ones_call : ℕ → List ℕ → Result ℕ Fault
ones_call m table = answered (shape_verdict m table) (ones_in m table)
