-- `gaussian::types::listed` meets its contract.
use borrow.Author.Rules.{rules}
use Rattle.gaussian.specs.Types.{type_of}
use Rattle.gaussian.proofs.Answers.{listed-none, listed-some}
use Rattle.gaussian.proofs.types.listed.Goals as goal

pub returns-in-0 : goal.returns-in-0
unfolding type_of
returns-in-0 c = listed-none c.args.width c.in-0.is

pub returns-in_default : goal.returns-in_default
unfolding type_of
returns-in_default c = listed-some c.args.width c.from.ensures (search rules)
