-- `curves::published::byte` meets its contract. The invariant: the byte has its first j bits.
use mathlib.Core.Path.{◌≡◌, ap, ◌∙◌}
use Prim.Native.Nat.{◌+◌}
use native.Mathlib.Omega.{arith}
use Rattle.gf2.specs.Sums.{sum}
use Rattle.gf2.specs.Coordinates.{value}
use Rattle.gf2.proofs.Coordinates.{byte_next}
use Rattle.curves.proofs.published.byte.Invariants.{bits}
use Rattle.curves.proofs.published.byte.Goals as goal

pub loop-j-init : goal.loop-j-init
unfolding value sum
loop-j-init c = omega arith

pub overflow_add-out : goal.overflow_add-out
overflow_add-out c =
    let s = c.args in
    let w = c.loop-j in
    let b = byte_next (bits s.digits.now s.start s.b) w.j w.out c.bit.result w.invariant c.bit.ensures (omega arith) in
    omega (arith, b.0, b.2)

pub loop-j-preserved : goal.loop-j-preserved
loop-j-preserved c =
    let s = c.args in
    let w = c.loop-j in
    let b = byte_next (bits s.digits.now s.start s.b) w.j w.out c.bit.result w.invariant c.bit.ensures (omega arith) in
    ap (λ x. w.out + x) b.0 ∙ b.1

pub returns : goal.returns
returns c =
    let s = c.args in
    let w = c.loop-j in
    let e : w.j ≡ 8 = omega arith in
    w.invariant ∙ ap (λ n. value n (bits s.digits.now s.start s.b)) e
