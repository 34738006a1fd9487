-- `runner::lists::Runnable::output_byte` meets its contract. The invariant: the byte has its first j bits.
use mathlib.Core.Path.{◌≡◌}
use Prim.Native.Nat.{◌+◌, ◌*◌}
use Rattle.gf2.specs.Coordinates.{value}
use Rattle.gf2.specs.Operands.{below}
use Rattle.runner.specs.Inner.{on_output}
use Rattle.runner.proofs.lists.Runnable.output_byte.Given as goal

abbrev pub invariant-loop-j : goal.invariant-loop-j
invariant-loop-j l = l.byte ≡ value l.j (λ j'. below l.self.list.width (on_output l.wires l.self.list.words.now) (l.b * 8 + j'))
