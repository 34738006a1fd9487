-- Demand 1: each call is exact by the law of any list of causes, and its values have room in its answer.
use Rattle.std.specs.Prelude.{Err, is_ok}
use mathlib.Core.Path.{◌≡◌, refl, sym, ap}
use mathlib.Core.Bool.{true}
use mathlib.Core.List.{List}
use Prim.Native.Nat.{ℕ}
use lib.ListN.{length}
use Rattle.gf2.specs.Operands.{choose}
use Rattle.gf2.specs.Quadratic.{trace}
use Rattle.gf2.specs.Tables.{ones_in}
use Rattle.gf2.specs.Inverse.{products_made}
use Rattle.judging.specs.declared.fault.Fault.{Fault}
use Rattle.judging.specs.Causes.{Cause, judged}
use Rattle.judging.specs.FaultTable.{shape_causes, symmetry_causes, check_causes}
use Rattle.judging.proofs.CauseLaws.{ok_or_err}
use Rattle.operand.specs.Causes.{bytes_causes, constant_causes, turn_bytes_causes, sum_bytes_causes, solve_bytes_causes}
use Rattle.table.specs.Judgements.{shape_verdict, symmetry_verdict, check_verdict}
use Rattle.product.specs.Causes.{product_bytes_causes, reduced_bytes_causes, inverse_bytes_causes}
use Rattle.netlist.specs.Gates.{Netlist}
use Rattle.netlist.specs.Lists.{plain, reduced, common}
use Rattle.netlist.specs.Running.{read_list}
use Rattle.netlist.specs.Calls.{counts_call, list_causes, list_verdict, list_call}
use Rattle.runner.specs.Causes.{run_bytes_causes}
use Rattle.equivalence.specs.Causes.{accept_causes}
use Rattle.equivalence.specs.Calls.{accept_verdict}
use Rattle.gaussian.specs.Types.{type_of}
use Rattle.gaussian.specs.Causes.{type_causes, draw_causes}
use Rattle.gaussian.specs.Calls.{draw_verdict}
use Rattle.card.specs.Numbers.{Read, refused, got}
use Rattle.card.specs.Cards.{card, Table, read_card}
use Rattle.card.specs.Calls.{read_answer, read_into}
use Rattle.card.specs.Statements.{Bytes}
use Rattle.card_writer.specs.Calls.{write_causes, write_verdict}
use Rattle.nb.specs.Packing.{is_small, PacksCounts}
use Rattle.nb.specs.Calls.{fault_answer}
use Rattle.nb.proofs.PackLaws.{are_small, small-causes, small-check, small-reduced}
use Rattle.nb.proofs.Bounds.{inverse-packs, trace-packs, ones-packs, plain-packs, reduced-packs, common-packs, plain-list-packs, reduced-list-packs, common-list-packs, accept-packs, type-answer-packs, draw-packs, write-packs, read-packs}
use Rattle.promises.specs.Answers.{Fills}
use Rattle.promises.specs.Demand1.{Counts, Lists, Reads, Demand1}
use Rattle.promises.proofs.CardTests.{good-read, card-exact}
use Rattle.promises.proofs.AnswerLaws.{value-refuses, value-answers, bare, valued, counted, lent, asks, fills}
use Rattle.promises.proofs.CarriedCalls.{carried-calls}
use Rattle.promises.proofs.Reports.{reports}

-- the counts of a list, and a written list
counts : (m : ℕ) (table : List ℕ) (list : Netlist) → PacksCounts (counts_call m table list) → Counts m table list (counts_call m table list)
counts m table list room = asks (symmetry_causes m table) (counted (symmetry_verdict m table) list room)

lists : (m : ℕ) (table : List ℕ) (list : Netlist) (old : List ℕ) → PacksCounts (list_call m table list old) → Lists m table list old
lists m table list old room = fills (list_causes m table list old) (counted (list_verdict m table list old) list room) old _

-- what a card's reading leaves, by what it finds
kept : (old : List ℕ) (x : Read Table) (f : Fault) → read_answer x ≡ Err f → read_into x old ≡ old
kept old (refused g) f e = refl
kept old (got t rest) f e = ok_or_err (sym e)

reads : (s old : List ℕ) → Bytes s → Reads s old
reads s old small =
    let packs = read-packs s old small in
    record {
      exact = card-exact (length old) s small;
      number = λ f e. value-refuses packs e;
      kept = kept old (read_card (length old) s);
      answered = λ m table g. value-answers packs (ap read_answer (good-read g));
      filled = λ m table g. ap (λ x. read_into x old) (good-read g);
    }

-- a call that returns nothing beside its verdict, where the causes' faults return nothing
simple : (cs : List Cause) → are_small cs ≡ true → (old result : List ℕ) → Fills cs (fault_answer cs) 0 0 (choose (is_ok (judged cs)) result old) old result
simple cs e = fills cs (bare (judged cs) (small-causes cs e))

pub demand1 : Demand1
unfolding is_small
demand1 = record {
  check = λ m t. asks (check_causes m t) (bare (check_verdict m t) (small-check m t));
  ones = λ m t. asks (shape_causes m t) (valued (shape_verdict m t) (ones_in m t) (ones-packs m t));
  product = λ m t a b old. simple (product_bytes_causes m t a b old) refl old _;
  reduced = λ m t a b old. fills (reduced_bytes_causes m t a b old) (bare (judged (reduced_bytes_causes m t a b old)) (small-reduced m t a b old)) old _;
  inverse = λ m t a old. fills (inverse_bytes_causes m t a old) (valued (judged (inverse_bytes_causes m t a old)) (products_made m t a) (inverse-packs m t a old)) old _;
  zero = λ m old. simple (constant_causes m old) refl old _;
  one = λ m old. simple (constant_causes m old) refl old _;
  turn = λ m a k old. simple (turn_bytes_causes m a old) refl old _;
  sum = λ m a b old. simple (sum_bytes_causes m a b old) refl old _;
  trace = λ m a. asks (bytes_causes m a) (valued (judged (bytes_causes m a)) (trace m a) (trace-packs m a));
  solve = λ m c old. simple (solve_bytes_causes m c old) refl old _;
  counts_plain = λ m t. counts m t (plain m t) (plain-packs m t);
  counts_reduced = λ m t. counts m t (reduced m t) (reduced-packs m t);
  counts_common = λ m t. counts m t (common m t) (common-packs m t);
  list_plain = λ m t old. lists m t (plain m t) old (plain-list-packs m t old);
  list_reduced = λ m t old. lists m t (reduced m t) old (reduced-list-packs m t old);
  list_common = λ m t old. lists m t (common m t) old (common-list-packs m t old);
  run = λ m list a b result wires. simple (run_bytes_causes m list a b result wires) refl result _;
  runs_wires = λ m list a b result wires. lent (judged (run_bytes_causes m list a b result wires)) wires _;
  accept = λ m t list. asks (accept_causes m t list) (counted (accept_verdict m t list) (read_list list m) (accept-packs m t list));
  typed = λ m. asks (type_causes m) (valued (judged (type_causes m)) (type_of m) (type-answer-packs m));
  draw = λ m old. fills (draw_causes m (length old)) (valued (draw_verdict m (length old)) (type_of m) (draw-packs m (length old))) old _;
  card_write = λ m t old. fills (write_causes m t (length old)) (valued (write_verdict m t (length old)) (length (card m t)) (write-packs m t old)) old _;
  card_read = reads;
  carried = carried-calls;
  report = reports;
}
