-- `product::times::plus_diagonal` meets its contract.
use Rattle.gf2.specs.Coordinates.{coord}
use Rattle.product.proofs.SoundOperands.{unwraps, unwrapped, is_made, sum-made}
use Rattle.product.proofs.TimesLaws.{plus_none, diagonal-made, plus-products}
use Rattle.product.proofs.times.plus_diagonal.Goals as goal

pub unwrap-diagonal-requires : goal.unwrap-diagonal-requires
unwrap-diagonal-requires c = unwraps c.square.ensures (diagonal-made c.requires c.args.x c.args.y _ c.below_width-products.ensures)

pub unwrap-requires : goal.unwrap-requires
unwrap-requires c =
    let a = c.args in
    let s = c.requires in
    let square = unwrapped c.square.ensures (diagonal-made s a.x a.y _ c.below_width-products.ensures) c.unwrap-diagonal.ensures in
    unwraps c.sum.ensures (sum-made s.least s.greatest (coord a.rows.bytes) _ (is_made s) square)

pub returns-in-Plain : goal.returns-in-Plain
returns-in-Plain c =
    rw c.in-Plain.is (plus_none c.requires c.args.x c.args.y)

pub returns-in-Reduced : goal.returns-in-Reduced
returns-in-Reduced c =
    let a = c.args in
    let square = unwrapped c.square.ensures (diagonal-made c.requires a.x a.y _ c.below_width-products.ensures) c.unwrap-diagonal.ensures in
    rw c.in-Reduced.is (unwrapped c.sum.ensures (plus-products c.requires a.x a.y c.masked.ensures square) c.unwrap.ensures)
