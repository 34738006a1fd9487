-- `list_folds::columns::find_firsts` meets its contract. The invariant: the limbs from limb k on have theirs, and n is the first one of them.
use mathlib.Core.Path.{◌≡◌}
use Prim.Native.Nat.{◌*◌, ◌≤◌}
use lib.ListN.{length}
use Rattle.list_folds.specs.Columns.{is_set, Successor, Firsts}
use Rattle.list_folds.proofs.columns.find_firsts.Given as goal

abbrev pub invariant-loop-k : goal.invariant-loop-k
invariant-loop-k l = (l.k ≤ length l.columns) × (Firsts l.columns l.k l.firsts) × (Successor (is_set l.columns 0) (64 * length l.columns) (64 * l.k) l.n) × (length l.firsts ≡ length l.initial.firsts)
