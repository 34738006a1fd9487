-- `list_folds::terms::push_run` meets its contract. The invariant: the ones before d are pushed, and d is one or the end.
use mathlib.Core.Path.{refl, ◌∙◌}
use Prim.Native.Nat.{◌-◌}
use native.Mathlib.Omega.{arith}
use Rattle.list_folds.specs.Columns.{is_set}
use Rattle.list_folds.proofs.WriteLaws.{push-most}
use Rattle.list_folds.proofs.TermLaws.{run-most, run-first, run-next}
use Rattle.list_folds.proofs.terms.push_run.Goals as goal

pub loop-d-init : goal.loop-d-init
loop-d-init c =
    let a = c.args in
    let n = c.next_one-d.ensures in
    (n.least, n.most, n.found, run-first (is_set a.columns.now.limbs.now a.at) a.start a.from n, refl)

pub push-g-requires : goal.push-g-requires
push-g-requires c =
    let a = c.args in
    let w = c.loop-d in
    (a.columns.now.readable.room.greatest, omega (arith, c.requires.gates, push-most w.invariant.3, run-most (is_set a.columns.now.limbs.now a.at) a.start a.from (w.d - a.from), c.loop-d-test.true))

pub loop-d-preserved : goal.loop-d-preserved
loop-d-preserved c =
    let a = c.args in
    let w = c.loop-d in
    let n = c.next_one-d-in-loop-d.ensures in
    (omega (arith, n.least, w.invariant.0), n.most, n.found, run-next (is_set a.columns.now.limbs.now a.at) a.start a.from w.invariant.0 (w.invariant.2 c.loop-d-test.true) w.invariant.3 c.push-g.ensures n, c.push-g.auto.out ∙ w.invariant.4)
