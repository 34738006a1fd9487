-- `netlist::entries::full_rows` meets its contract.
use mathlib.Core.Path.{◌≡◌, ◌∙◌}
use mathlib.Core.Bool.{Bool}
use Prim.Native.Nat.{ℕ}
use native.Mathlib.Omega.{arith}
use Rattle.std.proofs.Common.{rules, tests}
use Rattle.std.proofs.lemmas.Iterator.{YieldsList-from_range}
use Rattle.std.proofs.lemmas.Iterator.Consumers.{YieldsList-from_filter, count_from_yields_List}
use Rattle.std.proofs.lemmas.List.Sums.{length-filter}
use Rattle.std.specs.List.{range_with_len, count_by}
use Rattle.gf2.specs.Tables.{row}
use Rattle.netlist.specs.Lists.{all_ones, full_rows}
use Rattle.netlist.proofs.Ranges.{counted_below, few_below}
use Rattle.netlist.proofs.entries.full_rows.Goals as goal

pub returns : goal.returns
unfolding full_rows
returns c =
    let a = c.args.table.now in
    let p : ℕ → Bool = λ d. all_ones a.width (row a.width a.bytes.now d) in
    let e : c.count.result ≡ count_by p (range_with_len 0 a.width) =
    count_from_yields_List c.filter.result c.count.result c.count.ensures.ran
    (YieldsList-from_filter _ p (YieldsList-from_range 0 a.width a.width (rw c.width.ensures at c.filter.ensures.source) (omega arith)) c.filter.ensures.closure (λ x b q k. search (rules, tests)))
    ∙ length-filter p (range_with_len 0 a.width) in
    (e ∙ counted_below p a.width, omega (arith, e, few_below p a.width))
