-- `table::rows::judge_ends` meets its contract.
use mathlib.Core.Path.{◌≡◌, sym, ap, ◌∙◌}
use Prim.Native.Nat.{◌+◌, ◌*◌, ◌/◌, ◌%◌, ◌^◌, ◌<◌}
use native.Mathlib.Omega.{arith}
use lib.Bits.{bit_or}
use lib.ListN.{length, get_or}
use Rattle.gf2.proofs.Sums.{every_of}
use Rattle.limbs.proofs.LimbLoops.{ored, ored-none, ored-more}
use Rattle.table.proofs.Shapes.{row-length, rows-done, clear_whole, last_byte, last_within, ends-clear, ends-broken}
use Rattle.table.proofs.rows.judge_ends.Goals as goal
use Rattle.table.proofs.rows.judge_ends.Goals.{After-loop-d, In-loop-d}

-- the last byte of row d, in the table
within : (c : In-loop-d) → c.loop-d.d * c.bytes_for-size.result + c.args.width / 8 < length c.args.table.now
within c =
    rw c.bytes_for-size.ensures (last_within c.args.width c.args.table.now c.requires.1 c.if-used-eq0.false c.loop-d.d c.loop-d-test.true)

-- the loop's end
whole : (c : After-loop-d) → let a = c.args in c.loop-d.all ≡ ored a.width (last_byte a.width a.table.now)
whole c =
    let a = c.args in
    let e : c.loop-d.d ≡ a.width = omega arith in
    c.loop-d.invariant ∙ ap (λ n. ored n (last_byte a.width a.table.now)) e

pub returns-then-used-eq0 : goal.returns-then-used-eq0
returns-then-used-eq0 c =
    sym (rows-done _ _ (every_of c.args.width _ (λ d l. clear_whole _ _ (row-length _ d _ c.requires.1 l) c.if-used-eq0.true)))

pub loop-d-init : goal.loop-d-init
loop-d-init c = ored-none _

pub overflow_mul-all : goal.overflow_mul-all
overflow_mul-all c = omega (arith, within c)

pub overflow_add-all : goal.overflow_add-all
overflow_add-all c = omega (arith, within c)

pub bounds-table-d : goal.bounds-table-d
bounds-table-d c = within (goal.at.bounds-table-d c).In-loop-d

pub loop-d-preserved : goal.loop-d-preserved
loop-d-preserved c =
    let a = c.args in
    ap (λ n. bit_or c.loop-d.all (get_or a.table.now (c.loop-d.d * n + a.width / 8) 0)) c.bytes_for-size.ensures ∙ ored-more _ _ _ c.loop-d.invariant

pub returns-then-all-used-ne0 : goal.returns-then-all-used-ne0
returns-then-all-used-ne0 c =
    sym (ends-broken _ _ c.requires.1 c.if-used-eq0.false (λ k. (c.type_inv.table k).fits) (λ z.
    c.if-all-used-ne0.true (ap (λ y. y / 2 ^ (c.args.width % 8)) (whole (goal.at.returns-then-all-used-ne0 c).After-loop-d) ∙ z)))

pub returns : goal.returns
returns c =
    sym (ends-clear _ _ c.requires.1 c.if-used-eq0.false (sym (ap (λ y. y / 2 ^ (c.args.width % 8)) (whole (goal.at.returns c).After-loop-d)) ∙ c.if-all-used-ne0.false))
