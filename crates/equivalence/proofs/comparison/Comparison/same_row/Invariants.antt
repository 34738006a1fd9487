-- `equivalence::comparison::Comparison::same_row` meets its contract. The invariant: the products before j agree.
use mathlib.Core.Path.{◌≡◌}
use mathlib.Core.Bool.{true}
use lib.Dec.{eqb}
use Rattle.gf2.specs.Sums.{every}
use Rattle.netlist.specs.Sets.{wanted}
use Rattle.equivalence.specs.Inner.{bit_at}
use Rattle.equivalence.proofs.comparison.Comparison.same_row.Given as goal

abbrev pub invariant-loop-j : goal.invariant-loop-j
invariant-loop-j l = every l.j (λ j'. eqb (bit_at l.squares l.k l.i j') (wanted l.self.list.width l.self.table.bytes.now l.r l.i j')) ≡ true
