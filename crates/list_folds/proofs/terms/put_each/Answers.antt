-- `list_folds::terms::put_each` meets its contract. The invariant: the folds before r are stored.
use mathlib.Core.Path.{refl, ap, ◌∙◌}
use Prim.Native.Nat.{◌+◌, ◌*◌, ◌≤◌}
use native.Mathlib.Omega.{arith}
use lib.ListN.{set}
use Rattle.netlist.proofs.TableLaws.{width-times, width-square}
use Rattle.gf2.specs.Operands.{max_width}
use Rattle.list_folds.proofs.TermLaws.{terms-most}
use Rattle.list_folds.proofs.FoldedLaws.{folds-none, folds-few, folds-more}
use Rattle.list_folds.proofs.terms.put_each.Goals as goal

pub loop-r-init : goal.loop-r-init
loop-r-init c = (omega arith, folds-none, refl, refl)

pub fold_terms-f-requires : goal.fold_terms-f-requires
fold_terms-f-requires c =
    let w = c.loop-r in
    let a = c.args in
    let h = a.columns.now.readable.room.greatest in
    let l : w.r ≤ max_width = omega (arith, c.requires.0) in
    let few = folds-few (a.columns.now.width * a.columns.now.width + 1) w.invariant.1 (terms-most a.t a.columns.now.width a.columns.now.limbs.now) in
    let q = width-square a.columns.now.width a.columns.now.width h h in
    (omega (arith, c.requires.0), omega (arith, c.requires.1, few, q, width-times w.r (a.columns.now.width * a.columns.now.width + 1) (max_width * max_width + 1) l (omega (arith, q))))

pub loop-r-preserved : goal.loop-r-preserved
loop-r-preserved c =
    let w = c.loop-r in
    (omega arith, folds-more w.invariant.1 c.fold_terms-f.ensures (c.put.ensures ∙ ap (set w.ends w.r) c.unwrap_or.ensures), c.fold_terms-f.auto.out ∙ w.invariant.2, c.put.auto.out ∙ w.invariant.3)
