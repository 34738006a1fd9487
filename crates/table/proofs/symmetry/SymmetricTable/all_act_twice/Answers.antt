-- `table::symmetry::SymmetricTable::all_act_twice` meets its contract.
use mathlib.Core.Path.{◌≡◌, sym, ap, ◌∙◌}
use native.Mathlib.Omega.{arith}
use Rattle.gf2.specs.Sums.{every}
use Rattle.gf2.proofs.Sums.{every-none, every_more, every-not}
use Rattle.table.specs.Inner.{associates}
use Rattle.table.proofs.symmetry.SymmetricTable.all_act_twice.Goals as goal

pub loop-j-init : goal.loop-j-init
loop-j-init c = every-none _

pub returns-then-not-acts_twice : goal.returns-then-not-acts_twice
returns-then-not-acts_twice c = sym (every-not _ _ c.loop-j.j (omega (arith, c.loop-j-test.true)) (sym c.acts_twice.ensures ∙ c.if-not-acts_twice.true))

pub loop-j-preserved : goal.loop-j-preserved
loop-j-preserved c = every_more _ _ c.loop-j.invariant (sym c.acts_twice.ensures ∙ c.if-not-acts_twice.false)

pub returns : goal.returns
returns c =
    let l = c.loop-j in
    let a = c.args in
    let e : l.j ≡ a.self.now.table.width = omega arith in
    sym (ap (λ n. every n (associates a.self.now.table.width a.self.now.table.bytes.now 0)) (sym e) ∙ l.invariant)
