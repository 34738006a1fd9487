-- `list_folds::terms::put_each` meets its contract. The invariant: the folds before r are stored.
use mathlib.Core.Path.{◌≡◌}
use Prim.Native.Nat.{◌≤◌}
use lib.ListN.{length}
use Rattle.list_folds.specs.Terms.{fold_terms}
use Rattle.list_folds.proofs.FoldedLaws.{Folded}
use Rattle.list_folds.proofs.terms.put_each.Given as goal

abbrev pub invariant-loop-r : goal.invariant-loop-r
invariant-loop-r l = (l.r ≤ l.count) × (Folded l.columns.width l.r l.n (fold_terms l.t l.columns.width l.columns.limbs.now) l.initial.out l.initial.ends l.k l.out l.ends) × (length l.out ≡ length l.initial.out) × (length l.ends ≡ length l.initial.ends)
