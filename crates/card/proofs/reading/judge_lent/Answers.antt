-- `card::reading::judge_lent` meets its contract.
use mathlib.Core.Path.{sym, ap, ◌∙◌}
use mathlib.Core.List.{[], ◌∷◌}
use Prim.Native.Nat.{◌*◌}
use native.Mathlib.Omega.{arith}
use borrow.Author.Tests.{lt-ltb}
use Rattle.gf2.specs.Operands.{bytes_for}
use Rattle.judging.specs.FaultTable.{bad_width, too_short}
use Rattle.judging.proofs.CauseLaws.{fine, head-holds, none-given, ends, follows, handed_on}
use Rattle.judging.proofs.Passed.{is-width, size_small, room-passes}
use Rattle.card.proofs.reading.judge_lent.Goals as goal

pub returns-in_err-judge_width : goal.returns-in_err-judge_width
returns-in_err-judge_width c =
    handed_on c.from_residual.result c.from_residual.ensures.1 (ends (bad_width _ ∷ []) (too_short _ _ ∷ []) c.judge_width.ensures c.in_err-judge_width.was)

pub overflow_mul-width : goal.overflow_mul-width
overflow_mul-width c =
    let m = c.args.width in
    let w = is-width m (fine (bad_width m ∷ []) (sym c.judge_width.ensures ∙ c.in_ok-judge_width.was)).0 in
    omega (arith, size_small m w.greatest, ap (λ n. m * n) c.bytes_for.ensures)

pub returns-then-room-width : goal.returns-then-room-width
returns-then-room-width c =
    let a = c.args in
    let short = too_short a.room (a.width * bytes_for a.width) in
    follows (bad_width _ ∷ []) (short ∷ []) c.judge_width.ensures c.in_ok-judge_width.was
    (sym (head-holds short [] (lt-ltb _ _ (rw c.bytes_for.ensures at c.if-room-width.true))))

pub returns : goal.returns
returns c =
    let a = c.args in
    let short = too_short a.room (a.width * bytes_for a.width) in
    follows (bad_width _ ∷ []) (short ∷ []) c.judge_width.ensures c.in_ok-judge_width.was
    (sym (none-given (short ∷ []) (room-passes _ _ (rw c.bytes_for.ensures at c.if-room-width.false), tt)))
