-- `netlist::counts::Ones::reduced_gates` meets its contract.
use Prim.Native.Nat.{◌+◌, ◌-◌, ◌*◌}
use native.Mathlib.Omega.{arith}
use Rattle.netlist.proofs.TableLaws.{width-square, ones-times}
use Rattle.netlist.proofs.counts.Ones.reduced_gates.Goals as goal

pub overflow_add-result : goal.overflow_add-result
overflow_add-result c = omega (arith, c.args.self.countable.most, c.args.self.countable.greatest, width-square c.args.self.width c.args.self.width c.args.self.countable.greatest c.args.self.countable.greatest)

pub overflow_mul-result-2 : goal.overflow_mul-result-2
overflow_mul-result-2 c = omega (arith, ones-times (3 * c.args.self.width + c.args.self.ones - 2) c.args.self.countable (omega arith))
