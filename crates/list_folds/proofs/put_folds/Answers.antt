-- `list_folds::put_folds` meets its contract.
use mathlib.Core.Path.{◌≡◌, refl, sym, ap, ◌∙◌}
use native.Mathlib.Omega.{arith}
use Rattle.gf2.specs.Operands.{choose}
use Rattle.list_pairs.specs.Pairs.{fits}
use Rattle.list_pairs.proofs.PutLaws.{fits-known}
use Rattle.list_folds.specs.TableFolds.{table_terms}
use Rattle.list_folds.proofs.ColumnLaws.{columns-none}
use Rattle.list_folds.proofs.TermLaws.{terms-same}
use Rattle.list_folds.proofs.FoldedLaws.{folds-none, folded-same, count_fits}
use Rattle.list_folds.proofs.put_folds.Goals as goal
use Rattle.list_folds.proofs.put_folds.Goals.{After-fits}

-- the test is that of the table's width
fits-of : (c : After-fits) → c.fits.result ≡ fits c.args.table.now.width c.args.count c.args.n
fits-of c = rw c.width-width.ensures at c.fits.ensures

pub returns-then-not-fits : goal.returns-then-not-fits
returns-then-not-fits c =
    let a = c.args in
    let q = ap (λ b. choose b a.count 0) (sym (fits-of (goal.at.returns-then-not-fits c).After-fits) ∙ c.if-not-fits.true) in
    let x = folded-same {T = table_terms a.t a.table.now.width a.table.now.bytes.now} q (λ r l. refl) folds-none in
    record { gates_put = x.put; ends_after = x.sums }

pub fill-requires : goal.fill-requires
fill-requires c =
    let t = c.args.table.now in
    columns-none c.args.t.rows t.width t.bytes.now t.shaped.least t.shaped.greatest

pub returns : goal.returns
returns c =
    let a = c.args in
    let t = a.table.now in
    let k = fits-known t.width a.count a.n (sym (fits-of (goal.at.returns c).After-fits) ∙ c.if-not-fits.false) in
    let w = c.width-width.ensures in
    let x = folded-same (count_fits k.0 k.1 k.3 k.2) (λ r g. terms-same a.t c.fill.ensures r (omega arith)) (record { put = rw w at c.put_each.ensures.gates_put; sums = rw w at c.put_each.ensures.ends_after }) in
    record { gates_put = x.put; ends_after = x.sums }
