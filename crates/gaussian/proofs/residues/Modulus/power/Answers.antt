-- `gaussian::residues::Modulus::power` meets its contract.
use native.Mathlib.Omega.{arith}
use Rattle.gaussian.proofs.ResidueLaws.{power-more, power-done}
use Rattle.gaussian.proofs.residues.Modulus.power.Goals as goal

pub loop-left-preserved : goal.loop-left-preserved
loop-left-preserved c = power-more c.loop-left.invariant c.digit-r.ensures c.times-square.ensures

pub returns : goal.returns
returns c = power-done c.loop-left.invariant (omega arith)
