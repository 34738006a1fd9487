-- `limbs::bytes::is_clear` meets its contract.
use mathlib.Core.Path.{◌≡◌}
use Prim.Native.Nat.{◌+◌, ◌/◌, ◌%◌}
use native.Mathlib.Omega.{arith}
use borrow.Author.Rules.{rules}
use borrow.Author.Tests.{tests}
use Rattle.std.proofs.lemmas.Iterator.{cases_from_all, YieldsList-from_slice}
use Rattle.limbs.proofs.SliceLaws.{byte-clear, not-clear, all-clear, rest-clear}
use Rattle.limbs.proofs.bytes.is_clear.Goals as goal

pub returns-then-s-first : goal.returns-then-s-first
returns-then-s-first c = let a = c.args in all-clear a.m a.s.now (a.m / 8) (omega arith) (λ i h l. absurd (omega arith))

pub returns-then-s-first-ne0 : goal.returns-then-s-first-ne0
returns-then-s-first-ne0 c =
    let a = c.args in
    not-clear a.m a.s.now (a.m / 8) (a.m % 8) (search rules) (omega arith) c.if-s-first-ne0.true

pub returns : goal.returns
returns c =
    let a = c.args in
    rest-clear a.m a.s.now (a.m / 8 + 1) c.all.result (λ k. search rules) (omega arith)
    (λ i h l. byte-clear a.s.now (a.m / 8) (a.m % 8) i c.if-s-first-ne0.false (omega arith) (omega arith))
    (cases_from_all _ _ _ (λ x. x ≡ 0) (λ x. x ≡ 0 → ⊥) c.all.ensures.ran (YieldsList-from_slice _ cc) (λ x q k. search (rules, tests)) (λ x q k. search (rules, tests)))
