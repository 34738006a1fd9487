-- `judging::parts::judge_table_size` meets its contract.
use mathlib.Core.Path.{sym, ap, ◌∙◌}
use mathlib.Core.List.{[], ◌∷◌, map}
use Rattle.judging.specs.Causes.{judged}
use Rattle.judging.specs.FaultTable.{bad_width, bad_length, high_bit}
use Rattle.judging.proofs.CauseLaws.{fine, ends, follows, handed_on}
use native.Mathlib.Omega.{arith}
use Prim.Native.Nat.{◌*◌}
use Rattle.judging.proofs.Passed.{is-width, size_small}
use Rattle.judging.proofs.parts.judge_table_size.Goals as goal

pub returns-in_err-judge_width : goal.returns-in_err-judge_width
returns-in_err-judge_width c = handed_on c.from_residual.result c.from_residual.ensures.1 (ends (bad_width _ ∷ []) (bad_length _ _ ∷ []) c.judge_width.ensures c.in_err-judge_width.was)

pub overflow_mul-width : goal.overflow_mul-width
overflow_mul-width c =
    let m = c.args.width in
    let w = is-width m (fine (bad_width m ∷ []) (sym c.judge_width.ensures ∙ c.in_ok-judge_width.was)).0 in
    omega (arith, size_small m w.greatest, ap (λ n. m * n) c.bytes_for.ensures)

pub returns : goal.returns
returns c =
    let a = c.args in
    follows (bad_width _ ∷ []) (bad_length _ _ ∷ []) c.judge_width.ensures c.in_ok-judge_width.was
    (c.judge_length.ensures ∙ ap (λ n. judged (bad_length a.size (a.width * n) ∷ [])) c.bytes_for.ensures)
