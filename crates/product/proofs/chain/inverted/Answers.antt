-- `product::chain::inverted` meets its contract.
use mathlib.Core.Path.{ap₂}
use Rattle.product.proofs.SoundOperands.{unwraps, unwrapped}
use Rattle.product.proofs.ChainSteps.{last-turns, last-count}
use Rattle.product.proofs.chain.inverted.Goals as goal

pub unwrap-requires : goal.unwrap-requires
unwrap-requires c = unwraps c.turn.ensures (last-turns c.args.table.now c.requires.1 c.last-end.ensures)

pub returns : goal.returns
returns c =
    let t = c.args.table.now in
    let e = c.last-end.ensures in
    ap₂ (λ v n. record { value = v; count = n }) (unwrapped c.turn.ensures (last-turns t c.requires.1 e) c.unwrap.ensures) (last-count t c.requires.1 e)
