-- `gaussian::listed_type` meets its contract.
use mathlib.Core.Path.{◌∙◌}
use Rattle.gaussian.proofs.Answers.{listed-answer}
use Rattle.gaussian.proofs.listed_type.Goals as goal

pub returns : goal.returns
returns c = c.ok_or.ensures.value ∙ rw c.listed.ensures (listed-answer c.args.width)
