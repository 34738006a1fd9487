-- `table::rows::judge_ends` meets its contract.
use mathlib.Core.Path.{◌≡◌}
use Rattle.limbs.proofs.LimbLoops.{ored}
use Rattle.table.proofs.Shapes.{last_byte}
use Rattle.table.proofs.rows.judge_ends.Given as goal

abbrev pub invariant-loop-d : goal.invariant-loop-d
invariant-loop-d l = l.all ≡ ored l.d (last_byte l.width l.table)
