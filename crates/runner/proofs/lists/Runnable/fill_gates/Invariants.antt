-- `runner::lists::Runnable::fill_gates` meets its contract. The invariant: the wires of the first k gates are filled, and the last one is at hand.
use mathlib.Core.Path.{◌≡◌}
use Prim.Native.Nat.{◌+◌, ◌-◌, ◌*◌}
use lib.ListN.{get_or}
use Rattle.runner.proofs.RunLaws.{filled_to}
use Rattle.runner.proofs.lists.Runnable.fill_gates.Given as goal

abbrev pub invariant-loop-k : goal.invariant-loop-k
invariant-loop-k l = (l.wires ≡ filled_to l.self.list.width l.self.list.words.now l.initial.wires l.k) × (l.last ≡ get_or l.wires (2 * l.self.list.width + l.k - 1) 0)
