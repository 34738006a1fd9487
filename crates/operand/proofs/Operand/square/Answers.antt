-- `operand::Operand::square` meets its contract.
use Rattle.gf2.specs.Operands.{squared}
use Rattle.operand.proofs.Operand.square.Goals as goal

pub returns : goal.returns
returns c = unfold squared in c.turn.ensures
