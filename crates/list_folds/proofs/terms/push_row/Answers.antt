-- `list_folds::terms::push_row` meets its contract.
use Prim.Native.Nat.{◌+◌, ◌-◌, ◌*◌}
use native.Mathlib.Omega.{arith}
use Rattle.limbs.specs.Limbs.{carried_limbs}
use Rattle.list_folds.specs.Columns.{is_set}
use Rattle.list_folds.proofs.WriteLaws.{push-most}
use Rattle.list_folds.proofs.TermLaws.{run-most, row-run, push-mixed, push-plain}
use Rattle.list_folds.proofs.terms.push_row.Goals as goal

pub returns-then-mixed : goal.returns-then-mixed
returns-then-mixed c =
    push-mixed c.args.columns.now.limbs.now c.args.r c.requires.1 c.minus-at.ensures.0 c.row_base.ensures c.if-mixed.true c.push_run.ensures

pub push_run-requires-2 : goal.push_run-requires-2
push_run-requires-2 c =
    let a = c.args in
    let t = is_set a.columns.now.limbs.now (c.minus-at.result * carried_limbs) in
    let few = run-most t (c.row_base.result + a.i - a.columns.now.width) (a.columns.now.width - a.i) (a.columns.now.width - (a.columns.now.width - a.i)) in
    row-run a.mixed c.args.columns.now.readable c.requires.1 c.minus-at.ensures.1 c.row_base.ensures (omega arith) (omega arith) (omega arith) (omega (arith, c.requires.2, push-most c.push_run-g.ensures, few))

pub returns : goal.returns
returns c =
    push-plain c.args.columns.now.limbs.now c.args.r c.requires.1 c.minus-at.ensures.0 c.row_base.ensures c.if-mixed.false c.push_run-g.ensures c.push_run-2.ensures
