-- `product::slots::gathered` meets its contract.
use Rattle.product.proofs.GatherLaws.{gathered-made}
use Rattle.product.proofs.slots.gathered.Goals as goal

pub returns : goal.returns
returns c =
    gathered-made c.args.g.now c.requires.0 c.requires.1 c.xored_limbs-both.result c.spread-all.ensures c.window.ensures c.window-2.ensures c.xored_limbs-both.ensures c.below_width.ensures
