-- `runner::lists::Runnable::output_bit` meets its contract.
use mathlib.Core.Path.{sym, ap, ◌∙◌}
use Prim.Native.Nat.{◌%◌}
use native.Mathlib.Omega.{arith}
use lib.ListN.{get_or}
use Rattle.gf2.proofs.Operands.{below_in, below_out}
use Rattle.runner.specs.Inner.{on_output}
use Rattle.runner.proofs.RunLaws.{output-there}
use Rattle.runner.proofs.lists.Runnable.output_bit.Goals as goal

pub returns-then-self-r : goal.returns-then-self-r
returns-then-self-r c = let a = c.args in let l = a.self.now.list in rw (below_out l.width (on_output a.wires.now l.words.now) a.r c.if-self-r.true)

pub bounds-wires-output : goal.bounds-wires-output
bounds-wires-output c =
    let a = c.args in
    let l = a.self.now.list in
    omega (arith, c.output.ensures, output-there l.width l.words.now a.self.now.passed.outputs a.r (omega arith), c.requires)

pub returns : goal.returns
returns c =
    let a = c.args in
    let l = a.self.now.list in
    ap (λ w. get_or a.wires.now w 0 % 2) c.output.ensures
    ∙ sym (ap (λ x. x % 2) (below_in l.width (on_output a.wires.now l.words.now) a.r (omega arith)))
