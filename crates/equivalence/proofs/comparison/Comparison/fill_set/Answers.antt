-- `equivalence::comparison::Comparison::fill_set` meets its contract.
use mathlib.Core.Path.{◌≡◌, ap₂, sym, ◌∙◌}
use Prim.Native.Nat.{◌-◌, ◌*◌, ◌<◌, ◌≤◌}
use native.Mathlib.Omega.{arith}
use borrow.Author.Rules.{rules}
use Rattle.netlist.specs.Running.{kind_at}
use Rattle.equivalence.specs.Inner.{place_of}
use Rattle.equivalence.proofs.SquareLaws.{HasSets, product-gathered, sum-gathered}
use Rattle.equivalence.proofs.GateLaws.{and-formed, xor-formed}
use Rattle.equivalence.proofs.comparison.Comparison.fill_set.Goals as goal
use Rattle.equivalence.proofs.comparison.Comparison.fill_set.Goals.{After-put_sum-arg-1}

-- an XOR, and the gates that it takes
other : (c : After-put_sum-arg-1) → let a = c.args in kind_at a.self.now.list.words.now a.k ≡ 0 → ⊥
other c e = c.if-kind-eq0.false (c.kind.ensures ∙ e)

taken : (c : After-put_sum-arg-1) → let a = c.args in let m = a.self.now.list.width in let l = c.left-left.result in let r = c.right-right.result in
    (2 * m ≤ l) × (2 * m ≤ r) × (l - 2 * m < a.k) × (r - 2 * m < a.k)
taken c = rw (c.left-left.ensures, c.right-right.ensures) (xor-formed c.args.self.now.ready c.requires.0 (other c))

pub place-requires : goal.place-requires
place-requires c =
    let ready = c.args.self.now.ready in
    (ready.narrow, rw (c.left-left.ensures, c.right-right.ensures) (and-formed ready c.requires.0 (sym c.kind.ensures ∙ c.if-kind-eq0.true)))

pub put_product-requires : goal.put_product-requires
put_product-requires c = (omega (arith, c.requires.0, c.args.self.now.ready.few), c.place.ensures.1)

pub overflow_sub-left : goal.overflow_sub-left
overflow_sub-left c = (taken c).0

pub overflow_sub-right : goal.overflow_sub-right
overflow_sub-right c = (taken c).1

pub put_sum-requires : goal.put_sum-requires
put_sum-requires c =
    let f = taken c in
    (omega (arith, c.requires.0, c.args.self.now.ready.few), f.2, f.3)

pub returns-then-kind-eq0 : goal.returns-then-kind-eq0
returns-then-kind-eq0 c =
    let a = c.args in
    let l = a.self.now.list in
    let ready = a.self.now.ready in
    let p = c.requires in
    let e = sym c.kind.ensures ∙ c.if-kind-eq0.true in
    let at = c.place.ensures in
    let room : HasSets a.sets.now = search rules in
    rw c.put_product.ensures (product-gathered l.width l.words.now ready a.k p.0 p.1 room e (and-formed ready p.0 e) c.place.result
    (at.0 ∙ ap₂ (place_of l.width) c.left-left.ensures c.right-right.ensures) at.1)

pub returns-else-kind-eq0 : goal.returns-else-kind-eq0
returns-else-kind-eq0 c =
    let a = c.args in
    let l = a.self.now.list in
    let ready = a.self.now.ready in
    let p = c.requires in
    let n = other (goal.at.returns-else-kind-eq0 c).After-put_sum-arg-1 in
    let f = xor-formed ready p.0 n in
    sum-gathered l.width l.words.now ready a.k p.0 p.1 n f.0 f.1 f.2 f.3
    (rw (c.left-left.ensures, c.right-right.ensures) at c.put_sum.ensures)
