-- `table::symmetry::same_bytes` meets its contract.
use mathlib.Core.Path.{◌≡◌, ap, ap₂, ◌∙◌}
use Prim.Native.Nat.{ℕ}
use native.Mathlib.Omega.{arith}
use lib.Dec.{eqb}
use lib.ListN.{length, get_or}
use mir.Val.{Fits}
use mir.Syntax.{w8}
use Rattle.gf2.specs.Operands.{carried_bytes}
use Rattle.limbs.specs.Limbs.{carried_limbs}
use Rattle.limbs.proofs.LimbLoops.{ored, ored-none, ored-more}
use Rattle.table.proofs.Comparing.{apart, same-limbs}
use borrow.Author.Rules.{rules}
use Rattle.table.proofs.symmetry.same_bytes.Goals as goal

pub loop-w-init : goal.loop-w-init
loop-w-init c = ored-none _

pub loop-w-preserved : goal.loop-w-preserved
loop-w-preserved c = ored-more _ _ _ c.loop-w.invariant

pub returns : goal.returns
returns c =
    let l = c.loop-w in
    let s = c.args in
    let e : l.w ≡ carried_limbs = omega arith in
    let sx : length s.x ≡ carried_bytes = search rules in
    let sy : length s.y ≡ carried_bytes = search rules in
    let bx : (k : ℕ) → Fits w8 (get_or s.x k 0) = λ k. search rules in
    let by : (k : ℕ) → Fits w8 (get_or s.y k 0) = λ k. search rules in
    ap (λ n. eqb n 0) (l.invariant ∙ ap (λ n. ored n (apart c.to_limbs-p.result c.to_limbs-q.result)) e
    ∙ ap₂ (λ x y. ored carried_limbs (apart x y)) c.to_limbs-p.ensures c.to_limbs-q.ensures)
    ∙ same-limbs s.x s.y sx sy (λ k. (bx k).fits) (λ k. (by k).fits)
