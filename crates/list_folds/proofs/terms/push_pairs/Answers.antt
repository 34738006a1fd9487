-- `list_folds::terms::push_pairs` meets its contract. The invariant: the rows before i are pushed.
use mathlib.Core.Path.{refl, ◌∙◌}
use native.Mathlib.Omega.{arith}
use native.Mathlib.Nat.{mul-le-mul_right}
use Rattle.list_folds.proofs.WriteLaws.{push-none, push-more, push-most}
use Rattle.list_folds.proofs.TermLaws.{rows_none, rows_more, rows-most}
use Rattle.list_folds.proofs.terms.push_pairs.Goals as goal

pub loop-i-init : goal.loop-i-init
loop-i-init c = let a = c.args in (omega arith, rw (rows_none a.mixed a.columns.now.width a.columns.now.limbs.now a.r) (push-none _ _ _), refl)

pub push_row-g-requires : goal.push_row-g-requires
push_row-g-requires c =
    let a = c.args in
    let w = c.loop-i in
    (c.requires.0, omega arith, omega (arith, c.requires.1, push-most w.invariant.1, rows-most a.mixed a.columns.now.width a.columns.now.limbs.now a.r w.i, mul-le-mul_right {m = w.i} {n = a.columns.now.width} a.columns.now.width (omega arith)))

pub loop-i-preserved : goal.loop-i-preserved
loop-i-preserved c =
    let a = c.args in
    let w = c.loop-i in
    (omega arith, rw (rows_more a.mixed a.columns.now.width a.columns.now.limbs.now a.r w.i) (push-more w.invariant.1 c.push_row-g.ensures), c.push_row-g.auto.out ∙ w.invariant.2)
