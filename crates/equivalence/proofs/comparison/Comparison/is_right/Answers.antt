-- `equivalence::comparison::Comparison::is_right` meets its contract.
use mathlib.Core.Path.{ap, ◌∙◌}
use Prim.Native.Nat.{◌-◌, ◌*◌}
use native.Mathlib.Omega.{arith}
use Rattle.netlist.specs.Sets.{wanted, same_products}
use Rattle.equivalence.specs.Inner.{bit_at}
use Rattle.equivalence.proofs.OutputLaws.{output-gate, input-wrong, gate-right}
use Rattle.equivalence.proofs.comparison.Comparison.is_right.Goals as goal

pub same_set-requires : goal.same_set-requires
same_set-requires c =
    let p = c.requires in
    let ready = c.args.self.now.ready in
    let l = output-gate ready p.1 (rw c.output-wire.ensures at c.if-inputs-wire.true) in
    (omega (arith, l, c.output-wire.ensures, ready.few), p.1)

pub returns-then-inputs-wire : goal.returns-then-inputs-wire
returns-then-inputs-wire c =
    let a = c.args in
    let s = a.self.now in
    let m = s.list.width in
    let t = s.table.bytes.now in
    let p = c.requires in
    c.same_set.ensures ∙ ap (λ n. same_products m (bit_at a.squares.now (n - 2 * m)) (wanted m t a.r)) c.output-wire.ensures
    ∙ gate-right m t s.list.words.now a.r s.ready p.0 p.1 (rw c.output-wire.ensures at c.if-inputs-wire.true)

pub returns : goal.returns
returns c =
    let s = c.args.self.now in
    input-wrong s.list.width s.table.bytes.now s.list.words.now c.args.r (rw c.output-wire.ensures at c.if-inputs-wire.false)
