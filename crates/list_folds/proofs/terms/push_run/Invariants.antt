-- `list_folds::terms::push_run` meets its contract. The invariant: the ones before d are pushed, and d is one or the end.
use mathlib.Core.Path.{◌≡◌}
use mathlib.Core.Bool.{true}
use Prim.Native.Nat.{◌-◌, ◌<◌, ◌≤◌}
use lib.ListN.{length}
use Rattle.list_folds.specs.Folds.{Pushed}
use Rattle.list_folds.specs.Columns.{is_set}
use Rattle.list_folds.specs.Terms.{run_terms}
use Rattle.list_folds.proofs.terms.push_run.Given as goal

abbrev pub invariant-loop-d : goal.invariant-loop-d
invariant-loop-d l = (l.from ≤ l.d) × (l.d ≤ l.to) × (l.d < l.to → is_set l.columns.limbs.now l.at l.d ≡ true) × (Pushed l.columns.width l.initial.g l.initial.out (run_terms (is_set l.columns.limbs.now l.at) l.start l.from (l.d - l.from)) l.g l.out) × (length l.out ≡ length l.initial.out)

abbrev pub decreases-loop-d : goal.decreases-loop-d
decreases-loop-d l = l.to - l.d
