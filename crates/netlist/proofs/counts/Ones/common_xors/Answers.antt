-- `netlist::counts::Ones::common_xors` meets its contract.
use mathlib.Core.Path.{sym, ap, ◌∙◌}
use native.Mathlib.Nat.{mul-pos}
use Prim.Native.Nat.{◌-◌, ◌*◌}
use native.Mathlib.Omega.{arith}
use Rattle.netlist.proofs.TableLaws.{width-square, ones-times}
use Rattle.netlist.specs.Counts.{common_xors}
use Rattle.netlist.proofs.CallLaws.{if_some}
use Rattle.netlist.proofs.counts.Ones.common_xors.Goals as goal

pub returns-then-self-eq0 : goal.returns-then-self-eq0
returns-then-self-eq0 c =
    let a = c.args.self in
    c.plain_xors.ensures ∙ ap (common_xors a.width a.ones) (sym c.if-self-eq0.true)

pub overflow_mul-result : goal.overflow_mul-result
overflow_mul-result c = let a = c.args.self in omega (arith, ones-times (a.ones - a.width * a.full) c.args.self.countable (omega arith))

pub overflow_add-result : goal.overflow_add-result
overflow_add-result c =
    let a = c.args.self in
    let p = c.args.self.countable in
    omega (arith, p.most, p.shared, width-square a.width a.width p.greatest p.greatest, ones-times (a.ones - a.width * a.full) p (omega arith))

pub overflow_sub-result-2 : goal.overflow_sub-result-2
overflow_sub-result-2 c =
    let a = c.args.self in
    omega (arith, mul-pos {m = a.width} {n = a.full} (omega (arith, c.args.self.countable.least)) (omega (arith, c.if-self-eq0.false)))

pub returns : goal.returns
returns c = if_some _ _ _ c.if-self-eq0.false
