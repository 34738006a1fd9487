-- `gaussian::residues::Modulus::digit` meets its contract.
use mathlib.Core.Path.{◌∙◌}
use Rattle.gaussian.proofs.ResidueLaws.{digit-one}
use Rattle.gaussian.proofs.residues.Modulus.digit.Goals as goal

pub returns-else-e-eq0 : goal.returns-else-e-eq0
returns-else-e-eq0 c = c.times.ensures ∙ digit-one _ _ _ _ c.if-e-eq0.false
