-- `product::answers::product_of` meets its contract.
use mathlib.Core.Path.{refl}
use native.Mathlib.Omega.{arith}
use Rattle.product.proofs.answers.product_of.Goals as goal

pub overflow_cast-left : goal.overflow_cast-left
overflow_cast-left c = record { fits = omega (arith, c.requires.1.greatest) }

pub overflow_cast-right : goal.overflow_cast-right
overflow_cast-right c = record { fits = omega (arith, c.requires.1.greatest) }

pub times-requires : goal.times-requires
times-requires c = (c.requires.0, c.requires.1, c.requires.2, refl)

pub returns : goal.returns
returns c = c.times.ensures
