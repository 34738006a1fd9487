-- `gaussian::residues::Modulus::in_k` meets its contract.
use mathlib.Core.Path.{ap}
use lib.Dec.{eqb}
use Rattle.gaussian.specs.Table.{in_k}
use Rattle.gaussian.proofs.residues.Modulus.in_k.Goals as goal

pub returns : goal.returns
unfolding in_k
returns c = ap (λ r. eqb r 1) c.power.ensures
