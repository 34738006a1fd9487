-- `list_folds::terms::push_pairs` meets its contract. The invariant: the rows before i are pushed.
use mathlib.Core.Path.{◌≡◌}
use Prim.Native.Nat.{◌≤◌}
use lib.ListN.{length}
use Rattle.list_folds.specs.Folds.{Pushed}
use Rattle.list_folds.specs.Terms.{rows_to}
use Rattle.list_folds.proofs.terms.push_pairs.Given as goal

abbrev pub invariant-loop-i : goal.invariant-loop-i
invariant-loop-i l = (l.i ≤ l.columns.width) × (Pushed l.columns.width l.initial.g l.initial.out (rows_to l.mixed l.columns.width l.columns.limbs.now l.r l.i) l.g l.out) × (length l.out ≡ length l.initial.out)
