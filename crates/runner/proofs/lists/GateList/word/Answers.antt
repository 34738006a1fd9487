-- `runner::lists::GateList::word` meets its contract.
use mathlib.Core.Path.{sym}
use native.Mathlib.Omega.{arith}
use lib.ListN.{get_or-eq_default}
use Rattle.runner.proofs.lists.GateList.word.Goals as goal

pub returns-else-at-self : goal.returns-else-at-self
returns-else-at-self c = sym (get_or-eq_default c.args.self.now.words.now 0 {n = c.args.at} (omega arith))
