-- `runner::lists::Runnable::fill_gates` meets its contract. The invariant: the wires of the first k gates are filled, and the last one is at hand.
use mathlib.Core.Path.{◌≡◌, sym, ap, ◌∙◌}
use mathlib.Core.List.{append-nil, ◌++◌}
use Prim.Native.Nat.{◌+◌, ◌-◌, ◌*◌, ◌<◌}
use native.Mathlib.Omega.{arith}
use lib.ListN.{get_or, set, drop_of_length-le}
use lib.Seq.{get_or-set_same}
use Rattle.gf2.proofs.Sums.{every-at}
use Rattle.netlist.specs.Running.{gate_count}
use Rattle.netlist.specs.Judgements.{is_gate}
use Rattle.runner.specs.Inner.{gate_at}
use Rattle.runner.proofs.RunLaws.{ran_to, filled_to, filled-start, filled-bits, filled_more}
use Rattle.runner.proofs.lists.Runnable.fill_gates.Goals as goal

pub bounds-wires-first : goal.bounds-wires-first
bounds-wires-first c = omega (arith, c.requires.0, c.args.self.now.passed.least)

pub loop-k-init : goal.loop-k-init
loop-k-init c =
    let l = c.args.self.now.list in
    let e : 2 * l.width - 1 ≡ 2 * l.width + 0 - 1 = omega arith in
    (filled-start l.width l.words.now c.args.wires.now (omega (arith, c.requires.0)) c.requires.1, ap (λ n. get_or c.args.wires.now n 0) e)

pub gate_at-next-requires : goal.gate_at-next-requires
gate_at-next-requires c =
    let w = c.loop-k in
    let l = c.args.self.now.list in
    let below : w.k < gate_count l.words.now = omega (arith, c.gates-k-end.ensures) in (
      below,
      record {
        room = omega (arith, w.auto.wires, c.requires.0, below);
        bits = rw w.invariant.0 (filled-bits l.width l.words.now c.args.wires.now (omega (arith, c.requires.0)) c.requires.1 w.k);
        at_hand = w.invariant.1;
      },
    )

pub bounds-wires-first-in-loop-k : goal.bounds-wires-first-in-loop-k
bounds-wires-first-in-loop-k c =
    omega (arith, c.loop-k.auto.wires, c.requires.0, c.gates-k-end.ensures)

pub loop-k-preserved : goal.loop-k-preserved
loop-k-preserved c =
    let w = c.loop-k in
    let m = c.args.self.now.list.width in
    let l = c.args.self.now.list.words.now in
    let size = c.requires.0 in
    let n : 2 * m + (w.k + 1) - 1 ≡ 2 * m + w.k = omega arith in (
      rw w.invariant.0 (filled_more m l c.args.wires.now (omega (arith, size)) c.requires.1 w.k (omega (arith, size, c.gates-k-end.ensures)) (every-at (gate_count l) (is_gate m l) c.args.self.now.passed.gates w.k (omega (arith, c.gates-k-end.ensures))) _ (c.gate_at-next.ensures ∙ ap (gate_at l w.k) w.invariant.0)),
      sym (ap (λ i. get_or (set w.wires (2 * m + w.k) c.gate_at-next.result) i 0) n ∙ get_or-set_same w.wires (2 * m + w.k) c.gate_at-next.result 0 (omega (arith, w.auto.wires, size, c.gates-k-end.ensures))),
    )

pub returns : goal.returns
unfolding filled_to ran_to
returns c =
    let w = c.loop-k in
    let l = c.args.self.now.list in
    let g = gate_count l.words.now in
    let e : w.k ≡ g = omega (arith, c.gates-k-end.ensures) in
    w.invariant.0 ∙ ap (filled_to l.width l.words.now c.args.wires.now) e
    ∙ ap (λ z. ran_to l.width l.words.now c.args.wires.now g ++ z) (drop_of_length-le c.args.wires.now {i = 2 * l.width + g} (omega (arith, c.requires.0)))
    ∙ append-nil _
