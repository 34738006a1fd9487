-- `gaussian::residues::DiscreteLogarithms::new` meets its contract.
use Rattle.gaussian.proofs.LogLaws.{LogLoop}
use Rattle.gaussian.proofs.residues.DiscreteLogarithms.new.Given as goal

abbrev pub invariant-loop-s : goal.invariant-loop-s
invariant-loop-s l = LogLoop l.modulus.m l.modulus.t l.entries l.y l.s
