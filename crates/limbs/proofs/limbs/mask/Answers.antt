-- `limbs::limbs::mask` meets its contract.
use mathlib.Core.Path.{◌≡◌, sym, ap, ◌∙◌}
use Prim.Native.Nat.{◌-◌, ◌*◌}
use native.Mathlib.Nat.{mod-eq_of_lt, lt_of_lt_of_le, one-mul}
use native.Mathlib.Omega.{arith}
use lib.Bits.{bit_and, and_zero_r, and_mask}
use lib.Pow.{pow_pos, pow_mono, shl_exact}
use Rattle.limbs.proofs.limbs.mask.Goals as goal

pub returns-then-m-w : goal.returns-then-m-w
returns-then-m-w c = λ x h. let e : c.args.m - c.args.w * 64 ≡ 0 = omega (arith, c.if-m-w.true) in and_zero_r x ∙ rw e (omega arith)

pub returns-then-n-ge64 : goal.returns-then-n-ge64
returns-then-n-ge64 c = λ x h. and_mask x 64 ∙ mod-eq_of_lt h ∙ sym (mod-eq_of_lt (lt_of_lt_of_le h (pow_mono {i = 64} c.if-n-ge64.true)))

pub overflow_sub-result : goal.overflow_sub-result
overflow_sub-result c = let n = c.args.m - c.args.w * 64 in
    rw (shl_exact {a = 1} 1 n 64 (omega arith) (omega arith)) (omega (arith, pow_pos n))

pub returns : goal.returns
returns c = λ x h.
    let n = c.args.m - c.args.w * 64 in
    ap (λ y. bit_and x (y - 1)) (shl_exact {a = 1} 1 n 64 (omega arith) (omega arith) ∙ one-mul _) ∙ and_mask x n
