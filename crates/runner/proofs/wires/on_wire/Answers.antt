-- `runner::wires::on_wire` meets its contract.
use mathlib.Core.Path.{◌≡◌, ap, ◌∙◌}
use Prim.Native.Nat.{◌-◌}
use native.Mathlib.Omega.{arith}
use lib.ListN.{get_or}
use Rattle.runner.proofs.wires.on_wire.Goals as goal

pub returns-then-wire-own : goal.returns-then-wire-own
returns-then-wire-own c =
    let e : c.args.own - 1 ≡ c.args.wire = omega (arith, c.if-wire-own.true) in
    c.requires.2 ∙ ap (λ n. get_or c.args.wires.now n 0) e
