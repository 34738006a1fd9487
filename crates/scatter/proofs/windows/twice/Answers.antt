-- `scatter::windows::twice` meets its contract.
use mathlib.Core.Path.{ap₂, ◌∙◌}
use Prim.Native.Nat.{◌-◌, ◌%◌}
use native.Mathlib.Omega.{arith}
use lib.Bits.{bit_xor}
use borrow.Author.Rules.{rules}
use Rattle.gf2.proofs.Loops.{filled_none, filled_more, filled-all}
use Rattle.limbs.proofs.RaisedLimbs.{pair_from}
use Rattle.scatter.specs.Cells.{twice_limbs}
use Rattle.scatter.proofs.MoveLaws.{twice-limbs}
use Rattle.scatter.proofs.windows.twice.Goals as goal

pub loop-w-init : goal.loop-w-init
loop-w-init c = filled_none twice_limbs _ _

pub loop-w-preserved : goal.loop-w-preserved
loop-w-preserved c = filled_more c.loop-w.invariant (omega arith) (omega arith) (ap₂ bit_xor c.limb_at.ensures
    (c.raise_pair.ensures ∙ ap₂ (pair_from (64 - c.args.m % 64)) c.limb_below-low.ensures c.limb_below-high.ensures))

pub returns : goal.returns
returns c = filled-all c.loop-w.invariant (omega arith) (omega arith) ∙ twice-limbs twice_limbs _ _ (λ k. search rules)
