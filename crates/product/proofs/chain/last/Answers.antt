-- `product::chain::last` meets its contract.
use mathlib.Core.Path.{refl, ap, ◌∙◌}
use Prim.Native.Nat.{◌-◌}
use Rattle.gf2.specs.Inverse.{start, digits}
use Rattle.product.specs.Inner.{state_of}
use Rattle.product.proofs.ChainSteps.{start-underway}
use Rattle.product.proofs.chain.last.Goals as goal

pub double-requires : goal.double-requires
double-requires c =
    (rw c.highest_one-unread.ensures (start-underway c.requires.0 c.requires.1), refl)

pub returns : goal.returns
returns c =
    let x = c.args in
    c.double.ensures
    ∙ ap (λ u. state_of x.width (digits x.width x.table.now x.a.bytes (x.width - 1) u (start x.a.bytes))) c.highest_one-unread.ensures
