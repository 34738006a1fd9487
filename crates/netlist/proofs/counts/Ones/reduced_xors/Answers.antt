-- `netlist::counts::Ones::reduced_xors` meets its contract.
use Prim.Native.Nat.{◌+◌, ◌-◌}
use native.Mathlib.Omega.{arith}
use Rattle.netlist.proofs.TableLaws.{width-square, ones-times}
use Rattle.netlist.proofs.counts.Ones.reduced_xors.Goals as goal

pub overflow_add-result : goal.overflow_add-result
overflow_add-result c = omega (arith, c.args.self.countable.most, c.args.self.countable.greatest, width-square c.args.self.width c.args.self.width c.args.self.countable.greatest c.args.self.countable.greatest)

pub overflow_mul-result : goal.overflow_mul-result
overflow_mul-result c = omega (arith, ones-times (c.args.self.ones + c.args.self.width - 2) c.args.self.countable (omega arith))
