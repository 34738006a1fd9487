-- `product::chain::doubling_step` meets its contract.
use mathlib.Core.Path.{ap, ◌∙◌}
use Prim.Native.Nat.{ℕ, ◌+◌, ◌*◌}
use lib.ListN.{replicate}
use Rattle.product.proofs.SoundOperands.{unwraps, turn-is}
use Rattle.product.proofs.ChainSteps.{turned-sound, turned-times}
use Rattle.product.proofs.chain.doubling_step.Goals as goal

pub unwrap-turned-requires : goal.unwrap-turned-requires
unwrap-turned-requires c = unwraps c.turn.ensures (turn-is c.requires.power c.args.s.k)

pub times-requires : goal.times-requires
times-requires c =
    let p = c.requires in
    (p.shaped, turned-sound p.power c.args.s.k c.turn.ensures c.unwrap-turned.ensures, p.power, c.clear.ensures ∙ ap (λ (n : ℕ). replicate {A = ℕ} n 0) p.there)

pub returns : goal.returns
returns c =
    ap (λ t. record { t = t; k = 2 * c.args.s.k; count = c.args.s.count + 1 })
    (turned-times c.requires.power c.args.s.k c.turn.ensures c.unwrap-turned.ensures _ _ c.times.ensures)
