-- `curves::published::operand` meets its contract. The invariant: the first b bytes are made.
use Prim.Native.Nat.{◌+◌, ◌*◌}
use Rattle.gf2.specs.Coordinates.{value}
use Rattle.gf2.specs.Operands.{carried_bytes}
use Rattle.gf2.proofs.Loops.{Filled}
use Rattle.curves.specs.Published.{digit_bit}
use Rattle.curves.proofs.published.operand.Given as goal

abbrev pub invariant-loop-b : goal.invariant-loop-b
invariant-loop-b l = Filled carried_bytes (λ b'. value 8 (λ j. digit_bit l.digits (l.start + (b' * 8 + j)))) l.initial.bytes l.bytes l.b
