-- `gaussian::residues::DiscreteLogarithms::new` meets its contract.
use native.Mathlib.Omega.{arith}
use Rattle.gaussian.proofs.LogLaws.{log-start, log-more, log-done}
use Rattle.gaussian.proofs.residues.DiscreteLogarithms.new.Goals as goal

pub loop-s-init : goal.loop-s-init
loop-s-init c = log-start c.args.modulus.drawable c.requires

pub loop-s-preserved : goal.loop-s-preserved
loop-s-preserved c =
    let p = c.args.modulus in
    log-more p.drawable c.loop-s.invariant c.loop-s-test.true (rw p.made at c.power-base.ensures) (rw p.made at c.times-y.ensures)

pub invariant_of-result : goal.invariant_of-result
invariant_of-result c = record { known = log-done c.args.modulus.drawable c.loop-s.invariant (omega arith) }
