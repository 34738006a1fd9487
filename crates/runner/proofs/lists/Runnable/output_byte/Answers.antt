-- `runner::lists::Runnable::output_byte` meets its contract. The invariant: the byte has its first j bits.
use mathlib.Core.Path.{◌≡◌, ap, ◌∙◌}
use Prim.Native.Nat.{◌+◌, ◌*◌}
use native.Mathlib.Omega.{arith}
use Rattle.gf2.specs.Sums.{sum}
use Rattle.gf2.specs.Coordinates.{value}
use Rattle.gf2.specs.Operands.{below}
use Rattle.runner.specs.Inner.{on_output}
use Rattle.gf2.proofs.Coordinates.{byte_next}
use Rattle.runner.proofs.lists.Runnable.output_byte.Goals as goal

pub loop-j-init : goal.loop-j-init
unfolding value sum
loop-j-init c = omega arith

pub output_bit-requires : goal.output_bit-requires
output_bit-requires c = c.requires.0

pub overflow_add-byte : goal.overflow_add-byte
overflow_add-byte c =
    let s = c.args in
    let w = c.loop-j in
    let b = byte_next (λ j. below s.self.now.list.width (on_output s.wires.now s.self.now.list.words.now) (s.b * 8 + j)) w.j w.byte c.output_bit.result w.invariant c.output_bit.ensures (omega arith) in
    omega (arith, b.0, b.2)

pub loop-j-preserved : goal.loop-j-preserved
loop-j-preserved c =
    let s = c.args in
    let w = c.loop-j in
    let b = byte_next (λ j. below s.self.now.list.width (on_output s.wires.now s.self.now.list.words.now) (s.b * 8 + j)) w.j w.byte c.output_bit.result w.invariant c.output_bit.ensures (omega arith) in
    ap (λ x. w.byte + x) b.0 ∙ b.1

pub returns : goal.returns
returns c =
    let s = c.args in
    let w = c.loop-j in
    let e : w.j ≡ 8 = omega arith in
    w.invariant ∙ ap (λ n. value n (λ j. below s.self.now.list.width (on_output s.wires.now s.self.now.list.words.now) (s.b * 8 + j))) e
