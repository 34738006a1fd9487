-- `runner::lists::Runnable::fill_result` meets its contract. The invariant: the first b bytes are stored.
use Prim.Native.Nat.{◌+◌, ◌*◌}
use Rattle.gf2.specs.Coordinates.{value}
use Rattle.gf2.specs.Operands.{bytes_for, below}
use Rattle.gf2.proofs.Loops.{Filled}
use Rattle.runner.specs.Inner.{on_output}
use Rattle.runner.proofs.lists.Runnable.fill_result.Given as goal

abbrev pub invariant-loop-b : goal.invariant-loop-b
invariant-loop-b l = Filled (bytes_for l.self.list.width) (λ b'. value 8 (λ j. below l.self.list.width (on_output l.wires l.self.list.words.now) (b' * 8 + j))) l.initial.res l.res l.b
