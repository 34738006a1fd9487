-- `product::chain::double` and `product::chain::add`, which call each other, meet their contracts.
use native.Mathlib.Omega.{arith}
use Rattle.product.proofs.ChainSteps.{few-digits, k-small, none_left, skipped-underway, skipped-last, doubled-underway, doubled-last, added-underway, added-last}
use borrow.Author.Rules.{rules}
use Rattle.product.proofs.chain.+add_double.Goals as goal

pub add-overflow_shr-width : goal.add-overflow_shr-width
add-overflow_shr-width t c = few-digits _ 64 (omega arith) c.requires.0.short

pub add-double-requires : goal.add-double-requires
add-double-requires t c = (omega arith, (skipped-underway c.requires.0 c.if-width-unread-eq0.true, c.requires.1))

pub add-returns-then-width-unread-eq0 : goal.add-returns-then-width-unread-eq0
add-returns-then-width-unread-eq0 t c = skipped-last c.requires.0 c.if-width-unread-eq0.true c.double.ensures

pub add-adding_step-next-requires : goal.add-adding_step-next-requires
add-adding_step-next-requires t c =
    let w = c.requires.0 in
    (record { shaped = w.shaped; power = w.power; small = k-small w; few = omega (arith, w.few, c.if-width-unread-eq0.false); there = c.requires.1 }, w.base)

pub add-double-requires-2 : goal.add-double-requires-2
add-double-requires-2 t c =
    (omega arith, (added-underway c.requires.0 (omega (arith, c.if-width-unread-eq0.false)) c.adding_step-next.ensures, search rules))

pub add-returns : goal.add-returns
add-returns t c = added-last c.requires.0 (omega (arith, c.if-width-unread-eq0.false)) c.adding_step-next.ensures c.double-2.ensures

pub double-returns-then-unread-eq0 : goal.double-returns-then-unread-eq0
double-returns-then-unread-eq0 t c = none_left c.requires.0 c.if-unread-eq0.true

pub double-doubling_step-next-requires : goal.double-doubling_step-next-requires
double-doubling_step-next-requires t c =
    let w = c.requires.0 in
    record { shaped = w.shaped; power = w.power; small = k-small w; few = omega (arith, w.few, c.if-unread-eq0.false); there = c.requires.1 }

pub double-add-requires : goal.double-add-requires
double-add-requires t c =
    let some = c.if-unread-eq0.false in
    (omega arith, (doubled-underway c.requires.0 (omega arith) c.doubling_step-next.ensures, search rules))

pub double-returns : goal.double-returns
double-returns t c = doubled-last c.requires.0 (omega (arith, c.if-unread-eq0.false)) c.doubling_step-next.ensures c.add.ensures
