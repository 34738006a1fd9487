-- `equivalence::gates::count_ands` meets its contract.
use mathlib.Core.Path.{◌≡◌, ap, ◌∙◌}
use mathlib.Core.Bool.{Bool}
use Prim.Native.Nat.{ℕ}
use native.Mathlib.Omega.{arith}
use lib.Dec.{eqb}
use Rattle.std.proofs.Common.{rules, tests}
use Rattle.std.proofs.lemmas.Iterator.{YieldsList-from_range}
use Rattle.std.proofs.lemmas.Iterator.Consumers.{YieldsList-from_filter, count_from_yields_List}
use Rattle.std.proofs.lemmas.List.Sums.{length-filter}
use Rattle.std.specs.List.{range_with_len, count_by}
use Rattle.netlist.specs.Gates.{and_gates}
use Rattle.netlist.specs.Running.{kind_at, gates_to}
use Rattle.netlist.proofs.Ranges.{counted_below, few_below}
use Rattle.equivalence.proofs.GateLaws.{ands-counted}
use Rattle.equivalence.proofs.gates.count_ands.Goals as goal

pub returns : goal.returns
returns c =
    let l = c.args.list.now.words.now in
    let g = c.gates.result in
    let p : ℕ → Bool = λ k. eqb (kind_at l k) 0 in
    let e : c.count.result ≡ count_by p (range_with_len 0 g) =
    count_from_yields_List c.filter.result c.count.result c.count.ensures.ran
    (YieldsList-from_filter _ p (YieldsList-from_range 0 g g c.filter.ensures.source (omega arith)) c.filter.ensures.closure (λ x b q k. search (rules, tests)))
    ∙ length-filter p (range_with_len 0 g) in
    (e ∙ counted_below p g ∙ ands-counted l g ∙ ap (λ g. and_gates (gates_to l g)) c.gates.ensures, omega (arith, e, few_below p g, c.gates.ensures))
