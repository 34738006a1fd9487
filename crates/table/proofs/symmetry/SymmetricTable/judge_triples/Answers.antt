-- `table::symmetry::SymmetricTable::judge_triples` meets its contract.
use mathlib.Core.Path.{sym, ◌∙◌}
use Rattle.table.proofs.Theorems.{first_passes}
use Rattle.table.proofs.symmetry.SymmetricTable.judge_triples.Goals as goal

pub returns-then-all_act_twice : goal.returns-then-all_act_twice
returns-then-all_act_twice c = let s = c.args.self.now in sym (first_passes _ _ s.table.shaped s.symmetric (sym c.all_act_twice.ensures ∙ c.if-all_act_twice.true))
