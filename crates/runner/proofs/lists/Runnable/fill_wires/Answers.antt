-- `runner::lists::Runnable::fill_wires` meets its contract.
use mathlib.Core.Path.{refl, ap, ◌∙◌}
use native.Mathlib.Omega.{arith}
use lib.Seq.{sets}
use Rattle.gf2.specs.Coordinates.{coord, tabulate}
use Rattle.runner.proofs.RunLaws.{bits-inputs, wires-filled}
use Rattle.runner.proofs.lists.Runnable.fill_wires.Goals as goal

pub fill_gates-requires : goal.fill_gates-requires
fill_gates-requires c =
    let m = c.args.self.now.list.width in
    let e = c.fill_operand-2.ensures ∙ ap (λ z. sets z m (tabulate m (coord c.args.b.now))) c.fill_operand.ensures in (
      c.fill_operand-2.auto.wires ∙ c.fill_operand.auto.wires ∙ c.requires,
      rw e (bits-inputs m c.args.a.now c.args.b.now c.args.wires.now (omega (arith, c.requires))),
    )

pub returns : goal.returns
returns c =
    let m = c.args.self.now.list.width in
    wires-filled m c.args.a.now c.args.b.now c.args.wires.now (omega (arith, c.requires)) c.args.self.now.list.words.now _ _ _
    (c.fill_operand-2.ensures ∙ ap (λ z. sets z m (tabulate m (coord c.args.b.now))) c.fill_operand.ensures) c.fill_gates.ensures refl
