-- `limbs::limbs::to_limbs` meets its contract.
use mathlib.Core.Path.{refl, ◌∙◌}
use native.Mathlib.Omega.{arith}
use Rattle.gf2.proofs.Loops.{filled_none, filled_more, filled-all}
use Rattle.limbs.specs.Limbs.{carried_limbs, pack_limbs}
use Rattle.limbs.proofs.LimbCoords.{limb-from}
use Rattle.limbs.proofs.limbs.to_limbs.Goals as goal

pub loop-w-init : goal.loop-w-init
loop-w-init c = filled_none carried_limbs _ _

pub loop-w-preserved : goal.loop-w-preserved
loop-w-preserved c = filled_more c.loop-w.invariant (omega arith) (omega arith) (c.eight.ensures ∙ limb-from _ _ _ refl)

pub returns : goal.returns
returns c = unfold pack_limbs in filled-all c.loop-w.invariant (omega arith) (omega arith)
