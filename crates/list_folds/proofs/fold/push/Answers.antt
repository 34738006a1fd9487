-- `list_folds::fold::push` meets its contract.
use Rattle.list_folds.proofs.WriteLaws.{push_begun, push-first}
use Rattle.list_folds.proofs.fold.push.Goals as goal

pub returns-in-Some : goal.returns-in-Some
returns-in-Some c = push_begun _ _ _ _ _ c.in-Some.is c.word.ensures c.put_gate.ensures

pub returns-in-None : goal.returns-in-None
returns-in-None c = push-first _ _ _ _ c.in-None.is
