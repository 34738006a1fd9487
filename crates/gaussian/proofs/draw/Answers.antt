-- `gaussian::draw` meets its contract.
use mathlib.Core.Path.{◌≡◌, sym, ◌∙◌}
use mathlib.Core.List.{[], ◌∷◌}
use native.Mathlib.Omega.{arith}
use lib.ListN.{length}
use Rattle.std.specs.Prelude.{Ok}
use Rattle.judging.specs.Causes.{judged}
use Rattle.judging.specs.FaultTable.{bad_width, bad_length}
use Rattle.judging.proofs.CauseLaws.{fine, ends, follows, handed_on, answer-passed, answer-failed}
use Rattle.judging.proofs.Passed.{is-width}
use Rattle.gaussian.specs.Types.{type_of}
use Rattle.gaussian.specs.Causes.{type_zero}
use Rattle.gaussian.specs.Calls.{draw_verdict}
use Rattle.gaussian.proofs.Answers.{draw-fine, drawable, drew-none, drew-table}
use Rattle.gaussian.proofs.draw.Goals as goal
use Rattle.gaussian.proofs.draw.Goals.{In_ok-t}

-- nothing is refused, and the type is the list's
type-drawn : (c : In_ok-t) → let a = c.args in (draw_verdict a.width (length a.table.now) ≡ Ok tt) × (c.in_ok-t.t ≡ type_of a.width)
type-drawn c =
    let g = answer-passed (judged (type_zero _ ∷ [])) (sym c.in_ok-t.ensures) in
    (sym (follows (bad_width _ ∷ bad_length _ _ ∷ []) (type_zero _ ∷ []) c.judge_table_size.ensures c.in_ok-judge_table_size.was (sym g.0)), sym g.1)

pub returns-in_err-judge_table_size : goal.returns-in_err-judge_table_size
returns-in_err-judge_table_size c =
    let x = drew-none _ _ (ends (bad_width _ ∷ bad_length _ _ ∷ []) (type_zero _ ∷ []) c.judge_table_size.ensures c.in_err-judge_table_size.was) in
    record { answer = handed_on c.from_residual.result c.from_residual.ensures.1 x.answers; bytes = x.leaves }

pub listed_type-requires : goal.listed_type-requires
listed_type-requires c =
    let w = is-width _ (fine (bad_width _ ∷ bad_length _ _ ∷ []) (sym c.judge_table_size.ensures ∙ c.in_ok-judge_table_size.was)).0 in
    (w.least, w.greatest)

pub returns-in_err-t : goal.returns-in_err-t
returns-in_err-t c =
    let e = c.from_residual-in_err-t in
    let x = drew-none _ _ (follows (bad_width _ ∷ bad_length _ _ ∷ []) (type_zero _ ∷ []) c.judge_table_size.ensures c.in_ok-judge_table_size.was (sym (answer-failed (judged (type_zero _ ∷ [])) _ (sym c.in_err-t.ensures)))) in
    record { answer = handed_on e.result e.ensures.1 x.answers; bytes = x.leaves }

pub fill-requires : goal.fill-requires
fill-requires c =
    let p = type-drawn (goal.at.fill-requires c).In_ok-t in
    let d = draw-fine _ _ p.0 in
    (rw p.1 (drawable _ _ d), record { greatest = d.greatest; size = d.laid_down; row = omega (arith, d.least) })

pub returns : goal.returns
returns c =
    let p = type-drawn (goal.at.returns c).In_ok-t in
    let x = drew-table _ _ p.0 p.1 c.fill.ensures in
    record { answer = x.answers; bytes = x.leaves }
