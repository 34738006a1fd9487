-- `list_pairs::pairs::put_pair` meets its contract.
use mathlib.Core.Path.{ap, ap₂, ◌∙◌}
use mathlib.Core.List.{[], ◌∷◌}
use Prim.Native.Nat.{◌+◌, ◌*◌}
use native.Mathlib.Omega.{arith}
use lib.Seq.{sets}
use borrow.Author.Tests.{lt-ltb, le-ltb}
use Rattle.netlist.specs.Lists.{only}
use Rattle.list_pairs.specs.Pairs.{pair_gate}
use Rattle.list_pairs.proofs.PutLaws.{put-none, put-and, put-xor}
use Rattle.list_pairs.proofs.pairs.put_pair.Goals as goal

pub returns-then-not-mixed : goal.returns-then-not-mixed
unfolding pair_gate only
returns-then-not-mixed c =
    let a = c.args in
    rw c.if-not-mixed.true (put-and (c.put_gate.ensures ∙ ap (λ k. sets a.out.now (2 + 3 * a.n) (k ∷ a.i ∷ (a.width + a.j) ∷ [])) c.word.ensures))

pub returns-then-i-j : goal.returns-then-i-j
unfolding pair_gate only
returns-then-i-j c =
    let a = c.args in
    rw (c.if-not-mixed.false, lt-ltb a.i a.j c.if-i-j.true)
    (put-xor (c.put_gate-then-i-j.ensures ∙ ap (λ k. sets a.out.now (2 + 3 * a.n) (k ∷ c.and_wire-left.result ∷ c.and_wire.result ∷ [])) c.word-then-i-j.ensures ∙ ap₂ (λ l r. sets a.out.now (2 + 3 * a.n) (1 ∷ l ∷ r ∷ [])) c.and_wire-left.ensures c.and_wire.ensures))

pub returns : goal.returns
unfolding pair_gate only
returns c =
    let a = c.args in
    rw (c.if-not-mixed.false, le-ltb a.i a.j (omega arith)) (put-none _ _)
