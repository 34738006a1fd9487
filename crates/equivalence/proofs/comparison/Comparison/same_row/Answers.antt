-- `equivalence::comparison::Comparison::same_row` meets its contract. The invariant: the products before j agree.
use mathlib.Core.Path.{◌≡◌, sym, ap₂, ◌∙◌}
use native.Mathlib.Omega.{arith}
use lib.Dec.{eqb}
use borrow.Author.Tests.{eq-eqb, ne_eqb}
use Rattle.gf2.proofs.Sums.{every-none, every_more, every-not}
use Rattle.equivalence.proofs.comparison.Comparison.same_row.Goals as goal

pub loop-j-init : goal.loop-j-init
loop-j-init c = every-none _

pub in_set-requires : goal.in_set-requires
in_set-requires c =
    let p = c.requires in
    let ready = c.args.self.now.ready in
    (p.0, omega (arith, p.2, ready.narrow), omega (arith, c.loop-j-test.true, ready.narrow))

pub is_wanted-requires : goal.is_wanted-requires
is_wanted-requires c = let p = c.requires in (p.1, p.2, omega arith)

pub returns-then-in_set-is_wanted : goal.returns-then-in_set-is_wanted
returns-then-in_set-is_wanted c = sym (every-not _ _ c.loop-j.j c.loop-j-test.true (sym (ap₂ eqb c.in_set.ensures c.is_wanted.ensures) ∙ ne_eqb _ _ c.if-in_set-is_wanted.true))

pub loop-j-preserved : goal.loop-j-preserved
loop-j-preserved c = every_more _ _ c.loop-j.invariant (sym (ap₂ eqb c.in_set.ensures c.is_wanted.ensures) ∙ eq-eqb _ _ c.if-in_set-is_wanted.false)

pub returns : goal.returns
returns c =
    let w = c.loop-j in
    let e : w.j ≡ c.args.self.now.list.width = omega arith in
    sym (rw e at w.invariant)
