-- `equivalence::comparison::Comparison::same_set` meets its contract.
use mathlib.Core.Bool.{Bool}
use Prim.Native.Nat.{ℕ}
use lib.Dec.{eqb}
use Rattle.std.proofs.Common.{rules, tests}
use Rattle.gf2.specs.Sums.{every}
use Rattle.netlist.specs.Sets.{wanted, same_products}
use Rattle.netlist.proofs.Ranges.{every-from_all}
use Rattle.equivalence.specs.Inner.{bit_at}
use Rattle.equivalence.proofs.comparison.Comparison.same_set.Goals as goal

pub returns : goal.returns
unfolding same_products
returns c =
    let a = c.args in
    let same : ℕ → Bool = λ i. every a.self.now.list.width (λ j. eqb (bit_at a.squares.now a.k i j) (wanted a.self.now.list.width a.self.now.table.bytes.now a.r i j)) in
    every-from_all same a.self.now.list.width _ _ _ c.all.ensures.ran (λ x b q k. search (rules, tests))
