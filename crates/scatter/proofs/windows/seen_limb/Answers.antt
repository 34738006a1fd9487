-- `scatter::windows::seen_limb` meets its contract.
use mathlib.Core.Path.{◌∙◌}
use Rattle.scatter.proofs.CellLaws.{seen-limb}
use Rattle.scatter.proofs.windows.seen_limb.Goals as goal

pub returns : goal.returns
returns c = let a = c.args in c.lower_pair.ensures ∙ seen-limb a.x.now a.w a.at
