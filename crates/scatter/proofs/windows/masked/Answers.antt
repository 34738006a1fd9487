-- `scatter::windows::masked` meets its contract.
use mathlib.Core.Path.{refl, ◌∙◌}
use native.Mathlib.Omega.{arith}
use Rattle.limbs.specs.Limbs.{carried_limbs}
use Rattle.limbs.proofs.LimbLoops.{limbs-fit}
use Rattle.gf2.proofs.Loops.{filled_none, filled_more, filled-all}
use Rattle.scatter.proofs.CellLaws.{masked-limbs}
use borrow.Author.Rules.{rules}
use Rattle.scatter.proofs.windows.masked.Goals as goal

pub loop-w-init : goal.loop-w-init
loop-w-init c = filled_none carried_limbs _ _

pub loop-w-preserved : goal.loop-w-preserved
loop-w-preserved c = filled_more c.loop-w.invariant (omega arith) (omega arith) refl

pub returns : goal.returns
returns c = let a = c.args in filled-all c.loop-w.invariant (omega arith) (omega arith) ∙ masked-limbs carried_limbs _ _ (limbs-fit a.x (λ k. search rules)) (limbs-fit a.y (λ k. search rules))
