-- `table::shaped::Table::rows_at` meets its contract.
use mathlib.Core.Path.{sym, ◌∙◌}
use native.Mathlib.Omega.{arith}
use Rattle.limbs.proofs.Reach.{ends-narrow}
use Rattle.table.proofs.RowsAtOnes.{limbs-none, limbs-more, limb-within, limbs-all}
use Rattle.table.proofs.shaped.Table.rows_at.Goals as goal

pub loop-w-init : goal.loop-w-init
loop-w-init c = limbs-none _ _ _

pub returns-then-ends_at : goal.returns-then-ends_at
returns-then-ends_at c =
    let l = c.loop-w in
    let narrow = ends-narrow _ _ (sym c.ends_at.ensures ∙ c.if-ends_at.true) in
    limbs-all _ _ _ c.requires l.w (omega arith) l.total l.invariant

pub plus_rows-next-requires : goal.plus_rows-next-requires
plus_rows-next-requires c =
    limb-within _ c.args.self.now.bytes.now _ c.requires _ (omega arith) c.carried_limb-limb.ensures

pub loop-w-preserved : goal.loop-w-preserved
loop-w-preserved c =
    let l = c.loop-w in
    limbs-more _ _ _ l.w (omega arith) c.carried_limb-limb.ensures l.total _ l.invariant c.plus_rows-next.ensures

pub returns : goal.returns
returns c =
    let l = c.loop-w in
    limbs-all _ _ _ c.requires l.w (omega (arith, c.args.self.now.shaped.greatest)) l.total l.invariant
