-- `card::store::put_bytes` meets its contract.
use mathlib.Core.Path.{◌≡◌, ◌∙◌}
use native.Mathlib.Omega.{arith}
use lib.ListN.{length}
use Rattle.gf2.specs.Operands.{carried_bytes}
use Rattle.card.proofs.Stores.{sets-one}
use borrow.Author.Rules.{rules}
use Rattle.card.proofs.store.put_bytes.Goals as goal

pub loop-b-preserved : goal.loop-b-preserved
loop-b-preserved c =
    let w = c.loop-b in
    let a = c.args in
    let len : length a.row ≡ carried_bytes = search rules in
    (c.put.ensures ∙ rw w.invariant.0 (sets-one a.out.now a.row a.at w.b (omega arith)), c.put.auto.out ∙ w.invariant.1)
