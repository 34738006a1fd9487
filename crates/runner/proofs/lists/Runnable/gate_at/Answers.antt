-- `runner::lists::Runnable::gate_at` meets its contract.
use mathlib.Core.Path.{◌≡◌, ap, ap₂, ◌∙◌}
use mathlib.Core.List.{List}
use Prim.Native.Nat.{ℕ, ◌+◌, ◌*◌, ◌<◌}
use lib.ListN.{get_or}
use Rattle.gf2.proofs.Sums.{every-at}
use Rattle.netlist.specs.Running.{applied, kind_at, left_at, right_at, gate_count}
use Rattle.netlist.specs.Judgements.{is_gate}
use Rattle.netlist.proofs.GateTests.{gate-wires}
use Rattle.runner.specs.Inner.{AreBits, IsRunnable, gate_at}
use Rattle.runner.proofs.lists.Runnable.gate_at.Goals as goal

-- the wires of a gate are before its own
earlier : {m : ℕ} {list : List ℕ} (p : IsRunnable m list) (k : ℕ) → k < gate_count list → (left_at list k < 2 * m + k) × (right_at list k < 2 * m + k)
earlier {m} {list} p k h = gate-wires m list k (every-at (gate_count list) (is_gate m list) p.gates k h)

-- a value that was read is a bit
bit-read : (n : ℕ) (values : List ℕ) (l : ℕ) {w x : ℕ} → AreBits n values → l < n → w ≡ l → x ≡ get_or values w 0 → x < 2
bit-read n values l b h e r = rw (r ∙ ap (λ w. get_or values w 0) e) (b.bit l h)

-- the value of a gate that was read
gate-read : (list values : List ℕ) (k : ℕ) {kind l r x y z : ℕ} → kind ≡ kind_at list k → l ≡ left_at list k → r ≡ right_at list k → x ≡ get_or values l 0 → y ≡ get_or values r 0 → z ≡ applied kind x y → z ≡ gate_at list k values
gate-read list values k {x = x} {y = y} ek el er ex ey h =
    h ∙ ap (λ c. applied c x y) ek ∙ ap₂ (applied (kind_at list k)) (ex ∙ ap (λ w. get_or values w 0) el) (ey ∙ ap (λ w. get_or values w 0) er)

pub on_wire-x-requires : goal.on_wire-x-requires
on_wire-x-requires c =
    let p = c.requires in
    (rw c.left.ensures (earlier c.args.self.now.passed c.args.k p.0).0, p.1.room, p.1.at_hand)

pub on_wire-y-requires : goal.on_wire-y-requires
on_wire-y-requires c =
    let p = c.requires in
    (rw c.right.ensures (earlier c.args.self.now.passed c.args.k p.0).1, p.1.room, p.1.at_hand)

pub gate_value-requires : goal.gate_value-requires
gate_value-requires c =
    let p = c.requires in
    let l = earlier c.args.self.now.passed c.args.k p.0 in
    (bit-read _ c.args.wires.now _ p.1.bits l.0 c.left.ensures c.on_wire-x.ensures, bit-read _ c.args.wires.now _ p.1.bits l.1 c.right.ensures c.on_wire-y.ensures)

pub returns : goal.returns
returns c =
    let a = c.args in
    gate-read a.self.now.list.words.now a.wires.now a.k c.kind.ensures c.left.ensures c.right.ensures c.on_wire-x.ensures c.on_wire-y.ensures c.gate_value.ensures
