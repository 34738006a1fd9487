-- `product::bytes::inverse_into` meets its contract.
use Rattle.std.specs.Prelude.{Ok}
use mathlib.Core.Path.{◌≡◌, sym, ap, ◌∙◌}
use Rattle.gf2.specs.Operands.{carried_by}
use Rattle.judging.proofs.CauseLaws.{ends, goes_on, handed_on, answer-given, answer-refused}
use Rattle.limbs.proofs.ByteLists.{Bytes}
use Rattle.operand.proofs.CallLaws.{kept, filled, Sized, sized}
use Rattle.product.specs.Inner.{inverse_answer}
use Rattle.product.proofs.Judged.{size_causes, unit_bytes, inverse-failed, inverse-passed, inverse-written, inverse-counted}
use Rattle.product.proofs.bytes.inverse_into.Goals as goal
use Rattle.product.proofs.bytes.inverse_into.Goals.{After-inverse, In_ok-judge_sizes}

-- the lengths that have passed, and the bytes
sizes : (c : In_ok-judge_sizes) → let a = c.args in Sized a.width a.a.now a.res.now
sizes c = sized _ _ _ (sym c.judge_sizes.ensures ∙ c.in_ok-judge_sizes.was)

bytes : (c : In_ok-judge_sizes) → Bytes c.args.a.now
bytes c = λ j. (c.shared_slice_known-2-1.given j).fits

-- the answer for the carried bytes
answer : (c : After-inverse) → let a = c.args in c.inverse.result ≡ inverse_answer a.width a.table.now (carried_by a.a.now)
answer c = c.inverse.ensures ∙ ap (inverse_answer c.args.width c.args.table.now) c.carried.ensures

pub returns-in_err-judge_sizes : goal.returns-in_err-judge_sizes
returns-in_err-judge_sizes c =
    let a = c.args in
    let e = sym (ends (size_causes a.width a.a.now a.res.now) (unit_bytes a.width a.table.now a.a.now) c.judge_sizes.ensures c.in_err-judge_sizes.was) in
    (handed_on c.from_residual.result c.from_residual.ensures.1 (answer-refused _ e), kept _ _ e)

pub inverse-requires : goal.inverse-requires
inverse-requires c = let w = (sizes (goal.at.inverse-requires c).In_ok-judge_sizes).width in (w.least, w.greatest)

pub returns-in_err-inverse : goal.returns-in_err-inverse
returns-in_err-inverse c =
    let a = c.args in
    let s = goal.at.returns-in_err-inverse c in
    let r = c.from_residual-in_err-inverse in
    let z = s.In_ok-judge_sizes in
    let e = goes_on (size_causes a.width a.a.now a.res.now) (unit_bytes a.width a.table.now a.a.now) (sym c.judge_sizes.ensures ∙ c.in_ok-judge_sizes.was)
    ∙ inverse-failed (sizes z) (bytes z) a.table.now (answer s.After-inverse) c.in_err-inverse.was in
    (handed_on r.result r.ensures.1 (answer-refused _ e), kept _ _ e)

pub returns : goal.returns
returns c =
    let a = c.args in
    let t = a.table.now in
    let s = goal.at.returns c in
    let z = sizes s.In_ok-judge_sizes in
    let b = bytes s.In_ok-judge_sizes in
    let i = answer s.After-inverse in
    let e = goes_on (size_causes a.width a.a.now a.res.now) (unit_bytes a.width t a.a.now) (sym c.judge_sizes.ensures ∙ c.in_ok-judge_sizes.was)
    ∙ inverse-passed z b t i c.in_ok-inverse.was in
    (ap Ok (inverse-counted z b t i c.in_ok-inverse.was) ∙ answer-given _ e, filled _ _ e (inverse-written z b t i c.in_ok-inverse.was c.copy_out.ensures))
