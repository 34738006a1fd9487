-- `gaussian::residues::Modulus::power` meets its contract.
use Rattle.gaussian.proofs.ResidueLaws.{PowerLoop}
use Rattle.gaussian.proofs.residues.Modulus.power.Given as goal

abbrev pub invariant-loop-left : goal.invariant-loop-left
invariant-loop-left l = PowerLoop l.x l.e l.self.p l.r l.square l.left

abbrev pub decreases-loop-left : goal.decreases-loop-left
decreases-loop-left l = l.left
