-- `list_pairs::pairs::put_pairs` meets its contract.
use mathlib.Core.Path.{sym, ◌∙◌}
use native.Mathlib.Omega.{arith}
use Rattle.netlist.proofs.TableLaws.{width-square}
use Rattle.list_pairs.proofs.PutLaws.{put-none, fits-known}
use Rattle.list_pairs.proofs.pairs.put_pairs.Goals as goal

pub returns-then-not-fits : goal.returns-then-not-fits
returns-then-not-fits c = rw (sym c.fits.ensures ∙ c.if-not-fits.true) (put-none _ _)

pub put_rows-requires : goal.put_rows-requires
put_rows-requires c =
    let a = c.args in
    let k = fits-known a.width a.width a.n (sym c.fits.ensures ∙ c.if-not-fits.false) in
    (k.1, omega (arith, k.1, k.3, width-square _ _ k.1 k.1))

pub returns : goal.returns
returns c =
    rw (sym c.fits.ensures ∙ c.if-not-fits.false) c.put_rows.ensures
