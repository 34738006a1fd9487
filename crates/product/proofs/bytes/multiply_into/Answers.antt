-- `product::bytes::multiply_into` meets its contract.
use mathlib.Core.Path.{◌≡◌, sym, ap₂, ◌∙◌}
use Rattle.gf2.specs.Operands.{carried_by}
use Rattle.judging.proofs.CauseLaws.{ends, follows}
use Rattle.operand.proofs.CallLaws.{ends-kept, ends-filled, SizedPair, sized-pair}
use Rattle.product.specs.Inner.{factor_causes, product_answer}
use Rattle.product.proofs.Judged.{pair_sizes, into-by, product-failed, product-passed, product-written}
use Rattle.product.proofs.bytes.multiply_into.Goals as goal
use Rattle.product.proofs.bytes.multiply_into.Goals.{After-product, In_ok-judge_sizes}

-- the lengths that have passed
sizes : (c : In_ok-judge_sizes) → let a = c.args in SizedPair a.width a.a.now a.b.now a.res.now
sizes c = sized-pair _ _ _ _ (sym c.judge_sizes.ensures ∙ c.in_ok-judge_sizes.was)

-- the answer for the carried bytes
answer : (c : After-product) → let a = c.args in
    c.product.result ≡ product_answer a.method a.width a.table.now (carried_by a.a.now) (carried_by a.b.now)
answer c =
    let a = c.args in
    c.product.ensures ∙ ap₂ (product_answer a.method a.width a.table.now) c.carried-x.ensures c.carried-y.ensures

pub returns-in_err-judge_sizes : goal.returns-in_err-judge_sizes
returns-in_err-judge_sizes c =
    let a = c.args in
    into-by a.width a.table.now a.method a.a.now a.b.now a.res.now
    (ends-kept c.from_residual.result _ _ c.from_residual.ensures.1
    (ends (pair_sizes a.width a.a.now a.b.now a.res.now) (factor_causes a.method a.width a.table.now a.a.now a.b.now) c.judge_sizes.ensures c.in_err-judge_sizes.was))

pub product-requires : goal.product-requires
product-requires c = let w = (sizes (goal.at.product-requires c).In_ok-judge_sizes).width in (w.least, w.greatest)

pub returns-in_err-product : goal.returns-in_err-product
returns-in_err-product c =
    let a = c.args in
    let s = goal.at.returns-in_err-product c in
    let e = c.from_residual-in_err-product in
    into-by a.width a.table.now a.method a.a.now a.b.now a.res.now
    (ends-kept e.result _ _ e.ensures.1
    (follows (pair_sizes a.width a.a.now a.b.now a.res.now) (factor_causes a.method a.width a.table.now a.a.now a.b.now) c.judge_sizes.ensures c.in_ok-judge_sizes.was
    (sym (product-failed (sizes s.In_ok-judge_sizes) a.table.now a.method (answer s.After-product) c.in_err-product.was))))

pub returns : goal.returns
returns c =
    let a = c.args in
    let s = goal.at.returns c in
    let z = sizes s.In_ok-judge_sizes in
    into-by a.width a.table.now a.method a.a.now a.b.now a.res.now
    (ends-filled _ _
    (follows (pair_sizes a.width a.a.now a.b.now a.res.now) (factor_causes a.method a.width a.table.now a.a.now a.b.now) c.judge_sizes.ensures c.in_ok-judge_sizes.was
    (sym (product-passed z a.table.now a.method (answer s.After-product) c.in_ok-product.was)))
    (product-written z a.table.now a.method (answer s.After-product) c.in_ok-product.was c.copy_out.ensures))
