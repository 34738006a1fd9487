-- `card::store::put_bytes` meets its contract.
use mathlib.Core.Path.{◌≡◌}
use lib.ListN.{length, take}
use lib.Seq.{sets}
use Rattle.card.proofs.store.put_bytes.Given as goal

abbrev pub invariant-loop-b : goal.invariant-loop-b
invariant-loop-b l = (l.out ≡ sets l.initial.out l.at (take l.b l.row)) × (length l.out ≡ length l.initial.out)
