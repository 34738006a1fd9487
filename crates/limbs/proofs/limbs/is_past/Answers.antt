-- `limbs::limbs::is_past` meets its contract.
use mathlib.Core.Path.{sym, ◌∙◌}
use Prim.Native.Nat.{◌*◌}
use native.Mathlib.Decide.{dec_lt}
use native.Mathlib.Omega.{arith}
use borrow.Author.Tests.{lt-ltb, le-ltb, le-leb, lt-leb}
use Rattle.limbs.specs.Limbs.{few, reach}
use Rattle.limbs.proofs.Reach.{reach_few, reach-all, reach-most, reach-least}
use Rattle.limbs.proofs.limbs.is_past.Goals as goal

pub returns-then-w-lt-FEW : goal.returns-then-w-lt-FEW
returns-then-w-lt-FEW c = let a = c.args in sym (lt-leb (reach a.m) a.w (omega (arith, reach-least a.m, c.if-w-lt-FEW.true)))

pub returns-then-w-ge-LIMBS : goal.returns-then-w-ge-LIMBS
returns-then-w-ge-LIMBS c = let a = c.args in sym (le-leb (reach a.m) a.w (omega (arith, reach-most a.m, c.if-w-ge-LIMBS.true)))

pub returns : goal.returns
returns c =
    let a = c.args in
    elim (dec_lt a.m (64 * few)) [
      | yes h ↦ lt-ltb a.m (64 * few) h ∙ sym (le-leb (reach a.m) a.w (omega (arith, reach_few a.m h, c.if-w-lt-FEW.false)))
      | no h ↦ le-ltb a.m (64 * few) (omega arith) ∙ sym (lt-leb (reach a.m) a.w (omega (arith, reach-all a.m (omega arith), c.if-w-ge-LIMBS.false)))
    ]
