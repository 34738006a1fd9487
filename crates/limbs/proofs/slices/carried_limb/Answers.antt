-- `limbs::slices::carried_limb` meets its contract.
use mathlib.Core.Path.{sym, ◌∙◌}
use native.Mathlib.Omega.{arith}
use lib.ListN.{get_or-eq_default}
use Rattle.gf2.specs.Coordinates.{coord}
use Rattle.gf2.proofs.Coordinates.{get_d_tabulate}
use Rattle.limbs.specs.Limbs.{carried_limbs, pack_limbs}
use Rattle.limbs.proofs.LimbCoords.{length-limbs}
use Rattle.limbs.proofs.slices.carried_limb.Goals as goal

pub returns-then-w-ge-LIMBS : goal.returns-then-w-ge-LIMBS
returns-then-w-ge-LIMBS c = let s = c.args.s.now in
    sym (get_or-eq_default (pack_limbs carried_limbs (coord s)) 0 {n = c.args.w} (omega (arith, c.if-w-ge-LIMBS.true, length-limbs carried_limbs (coord s))))

pub returns : goal.returns
unfolding pack_limbs
returns c = c.slice_limb.ensures ∙ sym (get_d_tabulate carried_limbs _ c.args.w (omega (arith, c.if-w-ge-LIMBS.false)))
