-- `netlist::counts::Ones::plain_xors` meets its contract.
use Prim.Native.Nat.{◌-◌}
use native.Mathlib.Omega.{arith}
use Rattle.netlist.proofs.TableLaws.{ones-times}
use Rattle.netlist.proofs.counts.Ones.plain_xors.Goals as goal

pub overflow_mul-result : goal.overflow_mul-result
overflow_mul-result c = omega (arith, ones-times (c.args.self.ones - 1) c.args.self.countable (omega arith))
