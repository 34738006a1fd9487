-- `equivalence::comparison::Comparison::is_wanted` meets its contract.
use mathlib.Core.Path.{sym, ap, ap₂, ◌∙◌}
use Prim.Native.Nat.{◌+◌, ◌*◌, ◌≤◌}
use native.Mathlib.Nat.{mul-le-mul}
use native.Mathlib.Omega.{arith}
use Rattle.gf2.specs.Coordinates.{coord}
use Rattle.gf2.specs.Operands.{bytes_for, minus}
use Rattle.gf2.proofs.Operands.{minus-lt}
use Rattle.netlist.proofs.ListLaws.{pair-coord}
use Rattle.netlist.proofs.TableLaws.{row-coord}
use Rattle.equivalence.specs.Causes.{most_width}
use Rattle.equivalence.proofs.comparison.Comparison.is_wanted.Goals as goal
use Rattle.equivalence.proofs.comparison.Comparison.is_wanted.Goals.{After-bytes_for}

-- a row's first byte is among the first few
small : (c : After-bytes_for) → c.minus.result * c.bytes_for.result ≤ most_width * most_width
small c = mul-le-mul {n₁ = c.minus.result} {m₁ = c.bytes_for.result} {n₂ = most_width} {m₂ = most_width}
    (omega (arith, c.minus.ensures.1, c.args.self.now.ready.narrow)) (omega (arith, c.bytes_for.ensures, c.args.self.now.ready.narrow))

pub minus-requires : goal.minus-requires
minus-requires c = let p = c.requires in (c.args.self.now.ready.narrow, p.2, p.1)

pub minus-requires-2 : goal.minus-requires-2
minus-requires-2 c = let p = c.requires in omega (arith, c.args.self.now.ready.narrow, p.0, p.1)

pub overflow_mul-row : goal.overflow_mul-row
overflow_mul-row c = omega (arith, small c)

pub overflow_mul-row-2 : goal.overflow_mul-row-2
overflow_mul-row-2 c = omega (arith, small (goal.at.overflow_mul-row-2 c).After-bytes_for)

pub overflow_add-row : goal.overflow_add-row
overflow_add-row c = omega (arith, small (goal.at.overflow_add-row c).After-bytes_for, c.minus-2.ensures.1, c.args.self.now.ready.narrow)

pub returns : goal.returns
returns c =
    let a = c.args in
    let s = a.self.now in
    let m = s.list.width in
    let t = s.table.bytes.now in
    let p = c.requires in
    c.coordinate.ensures
    ∙ ap (λ x. coord x (8 * (c.minus.result * c.bytes_for.result) + c.minus-2.result)) c.bytes.ensures
    ∙ ap₂ (λ d n. coord t (8 * (d * n) + c.minus-2.result)) c.minus.ensures.0 c.bytes_for.ensures
    ∙ ap (λ n. coord t (8 * (minus m a.j a.i * bytes_for m) + n)) c.minus-2.ensures.0
    ∙ sym (pair-coord m t (rw s.same at s.table.shaped.is_table) a.i a.j a.r p.0 ∙ row-coord m t _ _ (minus-lt m a.r a.i (omega arith)))
