-- `list_folds::fold::push_last` meets its contract.
use Rattle.list_folds.proofs.WriteLaws.{push-none}
use Rattle.list_folds.proofs.fold.push_last.Goals as goal

pub returns-in-None : goal.returns-in-None
returns-in-None c = rw c.in-None.is (push-none _ _ _)
