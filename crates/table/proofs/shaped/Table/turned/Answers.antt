-- `table::shaped::Table::turned` meets its contract.
use mathlib.Core.Path.{◌∙◌}
use native.Mathlib.Omega.{arith}
use Rattle.turns.proofs.Turns.{rolled-turned}
use Rattle.table.proofs.shaped.Table.turned.Goals as goal

pub returns : goal.returns
returns c =
    let s = c.args.self.now.shaped in
    c.rolled.ensures ∙ rolled-turned s.greatest (omega (arith, s.least)) _ _ c.requires.size c.requires.clear
