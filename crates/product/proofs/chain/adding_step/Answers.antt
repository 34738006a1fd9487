-- `product::chain::adding_step` meets its contract.
use mathlib.Core.Path.{ap, ◌∙◌}
use Prim.Native.Nat.{ℕ, ◌+◌}
use lib.ListN.{replicate}
use Rattle.product.proofs.SoundOperands.{unwraps, turn-is}
use Rattle.product.proofs.ChainSteps.{turned-sound, turned-times}
use Rattle.product.proofs.chain.adding_step.Goals as goal

pub unwrap-turned-requires : goal.unwrap-turned-requires
unwrap-turned-requires c = unwraps c.turn.ensures (turn-is c.requires.0.power 1)

pub times-requires : goal.times-requires
times-requires c =
    let p = c.requires in
    (p.0.shaped, turned-sound p.0.power 1 c.turn.ensures c.unwrap-turned.ensures, p.1, c.clear.ensures ∙ ap (λ (n : ℕ). replicate {A = ℕ} n 0) p.0.there)

pub returns : goal.returns
returns c =
    ap (λ t. record { t = t; k = c.args.doubled.k + 1; count = c.args.doubled.count + 1 })
    (turned-times c.requires.0.power 1 c.turn.ensures c.unwrap-turned.ensures _ _ c.times.ensures)
