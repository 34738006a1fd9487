-- `gaussian::residues::Modulus::times` meets its contract.
use Prim.Native.Nat.{◌<◌}
use native.Mathlib.Omega.{arith}
use Rattle.gaussian.specs.Inner.{residues}
use Rattle.gaussian.proofs.ResidueLaws.{drawable-small, product-fits}
use Rattle.gaussian.proofs.residues.Modulus.times.Goals as goal

pub overflow_mul-result : goal.overflow_mul-result
overflow_mul-result c =
    let small : c.args.self.p < residues = omega (arith, c.args.self.made, drawable-small c.args.self.drawable) in
    omega (arith, product-fits {a = c.from.result} {b = c.from-2.result} small (omega (arith, c.from.ensures, c.requires.0)) (omega (arith, c.from-2.ensures, c.requires.1)))
