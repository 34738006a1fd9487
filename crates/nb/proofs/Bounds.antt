-- The values that the calls return have room in their bits: ones, products made, traces, gates by kind, types, lengths of cards.
use Rattle.std.specs.Prelude.{Ok}
use Rattle.std.specs.Result.{is_ok, result_unwrap_or}
use mathlib.Core.Path.{◌≡◌, refl, ap}
use mathlib.Core.List.{List, [], ◌∷◌}
use Prim.Native.Nat.{ℕ, suc, ◌-◌, ◌*◌, ◌/◌, ◌%◌, ◌^◌, ◌<◌, ◌≤◌}
use native.Mathlib.Omega.{arith}
use lib.ListN.{length}
use Rattle.gf2.specs.Operands.{max_width, bytes_for}
use Rattle.gf2.specs.Tables.{ones_in}
use Rattle.gf2.specs.Quadratic.{trace}
use Rattle.gf2.specs.Inverse.{log2, binary_ones, products_made}
use Rattle.gf2.proofs.Sums.{sum-bits}
use Rattle.gf2.proofs.Chain.{products-made}
use Rattle.judging.specs.Causes.{Cause, Verdict, judged, answered}
use Rattle.judging.specs.FaultTable.{bad_width, bad_length, too_short, shape_causes, symmetry_causes}
use Rattle.judging.proofs.CauseLaws.{fine, none-given}
use Rattle.judging.proofs.Searches.{fine-parts}
use Rattle.judging.proofs.Passed.{is-width}
use Rattle.limbs.proofs.ByteLists.{Bytes}
use Rattle.operand.specs.Causes.{bytes_causes}
use Rattle.operand.specs.Calls.{trace_of}
use Rattle.table.specs.Judgements.{symmetry_verdict}
use Rattle.table.specs.Calls.{ones_call}
use Rattle.table.proofs.Theorems.{symmetry}
use Rattle.product.specs.Causes.{inverse_bytes_causes}
use Rattle.product.specs.Calls.{inverse_count}
use Rattle.gf2.proofs.Logarithm.{log2-le}
use Rattle.netlist.specs.Gates.{Netlist, words, and_gates, xor_gates}
use Rattle.netlist.specs.Lists.{plain, reduced, common}
use Rattle.netlist.specs.Running.{read_list}
use Rattle.netlist.specs.Calls.{counts_of, counts_call, counts_plain_call, counts_reduced_call, counts_common_call, list_causes, list_verdict, list_call}
use Rattle.netlist.specs.Statements.{Sized, ListsHold}
use Rattle.netlist.proofs.SizeLaws.{ones-most, counts-most}
use Rattle.netlist.proofs.Theorems.{theorem_lists}
use Rattle.netlist.proofs.TableLaws.{width-times}
use Rattle.equivalence.specs.Calls.{accept_verdict, accept_call}
use Rattle.equivalence.proofs.AcceptLaws.{counts-few}
use Rattle.gaussian.specs.Causes.{type_zero, type_causes, draw_causes}
use Rattle.gaussian.specs.Calls.{answer as typed, type_call, draw_call}
use Rattle.gaussian.proofs.TypeBound.{type-small}
use Rattle.card.specs.Cards.{card}
use Rattle.card.specs.Calls.{read_call}
use Rattle.card.specs.Statements.{width_read}
use Rattle.card.proofs.Theorems.{card-laws}
use Rattle.card_writer.specs.Calls.{write_causes, write_verdict, write_call}
use Rattle.card_writer.proofs.Lengths.{card-most}
use Rattle.nb.specs.Packing.{value_limit, is_small, PacksVerdict, PacksValue, PacksCounts}
use Rattle.nb.proofs.PackLaws.{packs-answered, small-causes, small-both, small-shape, small-symmetry, small-accept, packs-read}

-- both counts of a list have room
abbrev Few : Netlist → Type 0
Few list = (and_gates list.gates < value_limit) × (xor_gates list.gates < value_limit)

-- an answer's number, and its two counts
packs-value : (v : Verdict) {x : ℕ} → PacksVerdict v → (v ≡ Ok tt → x < value_limit) → PacksValue (answered v x)
packs-value = packs-answered (λ value. value < value_limit)

packs-counts : (v : Verdict) (list : Netlist) → PacksVerdict v → (v ≡ Ok tt → Few list) → PacksCounts (answered v (counts_of list))
packs-counts v list = packs-answered (λ counts. (counts.ands.0 < value_limit) × (counts.xors.0 < value_limit)) v

made-small : (m : ℕ) (t a : List ℕ) → 2 ≤ m → m ≤ max_width → products_made m t a < value_limit
unfolding binary_ones
made-small m t a h l =
    omega (arith, products-made m t a h, log2-le (m - 1), sum-bits (suc (log2 (m - 1))) (λ j. (m - 1) / 2 ^ j % 2) (λ j. omega arith))

-- the products of an inverse
pub inverse-packs : (m : ℕ) (t a old : List ℕ) → PacksValue (inverse_count m t a old)
unfolding is_small
inverse-packs m t a old =
    let cs = inverse_bytes_causes m t a old in
    packs-value (judged cs) (small-causes cs refl) (λ e. let w = is-width m (fine cs e).0 in made-small m t a w.least w.greatest)

-- a trace is 0 or 1
pub trace-packs : (m : ℕ) (a : List ℕ) → PacksValue (trace_of m a)
unfolding trace is_small
trace-packs m a = packs-value (judged (bytes_causes m a)) (small-causes (bytes_causes m a) refl) (λ e. omega arith)

ones_small : (m : ℕ) (t : List ℕ) → m ≤ max_width → ones_in m t < value_limit
ones_small m t h = omega (arith, ones-most m t, width-times m m max_width h h)

pub ones-packs : (m : ℕ) (t : List ℕ) → PacksValue (ones_call m t)
ones-packs m t = packs-value (judged (shape_causes m t)) (small-shape m t) (λ e. ones_small m t (is-width m (fine (shape_causes m t) e).0).greatest)

module _ (m : ℕ) (t : List ℕ) where
  lists : symmetry_verdict m t ≡ Ok tt → (m ≤ max_width) × ListsHold m t
  lists e = let (shaped, rules) = (symmetry m t).0 e in (shaped.greatest, theorem_lists m t shaped.least shaped.is_table rules)

  module _ (list : Netlist) (sized : ListsHold m t → Sized m list) where
    few : symmetry_verdict m t ≡ Ok tt → Few list
    few e =
        let both = counts-most m list (lists e).0 (sized (lists e).1) in
        (omega (arith, both), omega (arith, both))

    counts-packs : PacksCounts (counts_call m t list)
    counts-packs = packs-counts (symmetry_verdict m t) list (small-symmetry m t) few

    list-packs : (old : List ℕ) → PacksCounts (list_call m t list old)
    unfolding is_small
    list-packs old =
        let short = too_short (length old) (length (words m list)) ∷ [] in
        packs-counts (list_verdict m t list old) list
        (small-both (symmetry_causes m t) short (small-symmetry m t) (λ p. small-causes short refl))
        (λ e. few (none-given (symmetry_causes m t) (fine-parts (symmetry_causes m t) short (fine (list_causes m t list old) e)).0))

  pub plain-packs : PacksCounts (counts_plain_call m t)
  plain-packs = counts-packs (plain m t) (λ h. h.of_plain.sized)

  pub reduced-packs : PacksCounts (counts_reduced_call m t)
  reduced-packs = counts-packs (reduced m t) (λ h. h.of_reduced.sized)

  pub common-packs : PacksCounts (counts_common_call m t)
  common-packs = counts-packs (common m t) (λ h. h.of_common.sized)

  module _ (old : List ℕ) where
    pub plain-list-packs : PacksCounts (list_call m t (plain m t) old)
    plain-list-packs = list-packs (plain m t) (λ h. h.of_plain.sized) old

    pub reduced-list-packs : PacksCounts (list_call m t (reduced m t) old)
    reduced-list-packs = list-packs (reduced m t) (λ h. h.of_reduced.sized) old

    pub common-list-packs : PacksCounts (list_call m t (common m t) old)
    common-list-packs = list-packs (common m t) (λ h. h.of_common.sized) old

-- a list that is accepted
pub accept-packs : (m : ℕ) (t list : List ℕ) → PacksCounts (accept_call m t list)
accept-packs m t list = packs-counts (accept_verdict m t list) (read_list list m) (small-accept m t list)
    (λ e. let few = counts-few m t list e in (omega (arith, few), omega (arith, few)))

-- types, where the first cause is the width
type-packs : (cs : List Cause) (m : ℕ) → PacksVerdict (judged (bad_width m ∷ cs)) → PacksValue (typed (judged (bad_width m ∷ cs)) m)
type-packs cs m s = packs-value (judged (bad_width m ∷ cs)) s
    (λ e. let w = is-width m (fine (bad_width m ∷ cs) e).0 in omega (arith, type-small m w.least w.greatest))

pub type-answer-packs : (m : ℕ) → PacksValue (type_call m)
unfolding is_small
type-answer-packs m = type-packs (type_zero m ∷ []) m (small-causes (type_causes m) refl)

pub draw-packs : (m size : ℕ) → PacksValue (draw_call m size)
unfolding is_small
draw-packs m size = type-packs (bad_length size (m * bytes_for m) ∷ type_zero m ∷ []) m (small-causes (draw_causes m size) refl)

-- cards
pub write-packs : (m : ℕ) (t old : List ℕ) → PacksValue (write_call m t old)
unfolding is_small
write-packs m t old =
    let short = too_short (length old) (length (card m t)) ∷ [] in
    packs-value (write_verdict m t (length old))
    (small-both (shape_causes m t) short (small-shape m t) (λ p. small-causes short refl))
    (λ e. omega (arith, card-most m t (is-width m (fine (write_causes m t (length old)) e).0).greatest))

pub read-packs : (s old : List ℕ) → Bytes s → PacksValue (read_call s old)
read-packs s old small = packs-read (λ value. value < value_limit) s old (λ m e.
    let w : width_read s old ≡ m = ap (λ r. result_unwrap_or r 0) e in
    omega (arith, (card-laws.cards s old small (ap is_ok e)).greatest))
