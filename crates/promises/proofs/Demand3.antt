-- Demand 3: each field by a law of the crate that proves it.
use Rattle.std.specs.Prelude.{Ok}
use mathlib.Core.Path.{◌≡◌, refl, sym, ap, ap₂, ◌∙◌}
use mathlib.Core.List.{List}
use Prim.Native.Nat.{ℕ, zero, suc, ◌+◌, ◌-◌, ◌*◌, ◌/◌, ◌≤◌}
use native.Mathlib.Omega.{arith}
use native.Mathlib.Nat.{mul-add, mul_comm}
use lib.ListN.{length}
use lib.Seq.{take_at}
use Rattle.gf2.specs.Operands.{bytes_for, zeroes, ones}
use Rattle.gf2.specs.Tables.{ones_in}
use Rattle.gf2.specs.Products.{product}
use Rattle.gf2.specs.Check.{Accepted}
use Rattle.gf2.specs.Field.{Op, Field}
use Rattle.gf2.specs.Inverse.{inverse}
use Rattle.gf2.specs.Statements.{GivesInverse, pairs_below}
use Rattle.gf2.proofs.OperandVectors.{bytes_fit}
use Rattle.gf2.proofs.Theorems.{theorem_b, theorem_d, theorem_e, theorem_g, theorem_h}
use Rattle.table.specs.Rows.{Shaped}
use Rattle.table.specs.Judgements.{check_verdict, symmetry_verdict}
use Rattle.table.proofs.Theorems.{acceptance, fields, symmetry}
use Rattle.netlist.specs.Gates.{Netlist, words}
use Rattle.netlist.specs.Lists.{plain, reduced, common}
use Rattle.netlist.specs.Running.{wires, result}
use Rattle.netlist.specs.Calls.{counted_as, counts_call}
use Rattle.netlist.specs.Statements.{ListsHold, ListHolds, Counted, CommonCounts}
use Rattle.netlist.proofs.Theorems.{theorem_lists, theorem_common}
use Rattle.judging.specs.Causes.{judged, answered}
use Rattle.product.specs.Calls.{inverse_into}
use Rattle.runner.specs.Causes.{run_bytes_causes}
use Rattle.runner.specs.Statements.{ListsRun, Runs as ListRuns}
use Rattle.runner.proofs.Theorems.{theorem_runs}
use Rattle.nb.specs.Calls.{ran_result, ran_wires}
use Rattle.gf2.proofs.Carrying.{inverse-is}
use Rattle.promises.specs.Demand3.{words_written, Multiplies, Reduces, Runs, RunsToProduct, Inverts, HasGates, UnderAccepted, Demand3}
use Rattle.promises.proofs.NoFaults.{Passed, product-none, reduced-none, inverse-none, list-none}

-- n(n+1) is even
pronic : (n : ℕ) → (k : ℕ) × (2 * k ≡ suc n * n)
pronic zero = (0, refl)
pronic (suc n) = let h = pronic n in (h.0 + n + 1, omega (arith, h.1, mul_comm (suc (suc n)) (suc n), mul_comm (suc n) n))

-- m(C+m-2) is even where C is odd
even-half : (m c p : ℕ) → 2 ≤ m → c ≡ 1 + 2 * p → 2 * (m * (c + m - 2) / 2) ≡ m * (c + m - 2)
even-half zero c p l e = omega arith
even-half (suc n) c p l e =
    let k = pronic n in
    let split : suc n * (c + suc n - 2) ≡ suc n * (p + p) + suc n * n = ap (λ x. suc n * x) (omega (arith, e)) ∙ mul-add (suc n) (p + p) n in
    omega (arith, split, k.1, mul-add (suc n) p p)

module _ (m : ℕ) (table : List ℕ) (e : check_verdict m table ≡ Ok tt) where
  shaped : Shaped m table
  shaped = ((acceptance m table).0 e).0

  accepted : Accepted m table
  accepted = ((acceptance m table).0 e).1

  field : Field m table
  field = ((fields m table).0 e).1

  symmetric : symmetry_verdict m table ≡ Ok tt
  symmetric = (symmetry m table).1 (shaped, accepted.symmetric)

  passed : Passed m table
  passed = record { shaped = shaped; symmetry = symmetric }

  lists : ListsHold m table
  lists = theorem_lists m table shaped.least shaped.is_table accepted.symmetric

  ran : ListsRun m table
  ran = theorem_runs m table shaped.least shaped.is_table accepted.symmetric

  multiplies : (a b old : List ℕ) → Op m a → Op m b → length old ≡ bytes_for m → Multiplies m table a b old
  multiplies a b old x y room = let n = product-none passed a b old x y room in record { no_fault = n; value = rw n }

  reduces : (a b old : List ℕ) → Op m a → Op m b → length old ≡ bytes_for m → Reduces m table a b old
  reduces a b old x y room = let n = reduced-none passed a b old x y room in record {
    no_fault = n;
    value = rw n ((theorem_d m table shaped.least shaped.is_table accepted.symmetric a b).pairs ∙ sym (multiplies a b old x y room).value);
  }

  module _ (a old : List ℕ) (x : Op m a) (n : ¬ (a ≡ zeroes (bytes_for m) m)) (room : length old ≡ bytes_for m) where
    is_inverse_lem : inverse_into m table a old ≡ inverse m table a
    is_inverse_lem = rw (inverse-none passed a old x room n)

    operand : Op m (inverse m table a)
    operand = inverse-is table (record { greatest = shaped.greatest; size = x.size })

    gives : GivesInverse (bytes_for m) m table a
    gives = theorem_b.inverses (bytes_for m) m table a shaped.least (bytes_fit m) shaped.is_table accepted x

    inverts : Inverts m table a old
    inverts = record {
      no_fault = inverse-none passed a old x room n;
      operand = rw is_inverse_lem operand;
      value = rw is_inverse_lem (field.commutative _ _ operand x ∙ gives.is_inverse n);
    }

    only : (b : List ℕ) → Op m b → product m table b a ≡ ones (bytes_for m) m → b ≡ inverse_into m table a old
    only b y h = gives.unique b y (field.commutative _ _ x y ∙ h) ∙ sym is_inverse_lem

  -- a list, as it is written and as it is run
  module _ (list : Netlist) {xors : ℕ} (h : ListHolds m table list xors) (k : ListRuns m list) where
    written : (out : List ℕ) → length (words m list) ≤ length out → words_written m table list out ≡ words m list
    written out room = rw (list-none passed list out room) (take_at (words m list) _ _ refl)

    runs : (out a b old lent : List ℕ) → length (words m list) ≤ length out → Op m a → Op m b → length old ≡ bytes_for m →
        length lent ≡ 2 * m + length list.gates → Runs m table list out a b old lent
    runs out a b old lent room x y w all =
        let n = k.no_bytes_fault shaped.greatest a b old lent x y w all in
        let e = written out room in
        record {
          no_fault = ap (λ l. judged (run_bytes_causes m l a b old lent)) e ∙ n;
          value = ap (λ l. ran_result m l a b old lent) e ∙ found n ∙ ap (λ k. result k m list a b) (sym x.size)
              ∙ h.computes.bytes a b (rw x.size (bytes_fit m)) ∙ sym (multiplies a b old x y w).value;
          wire = ap (λ l. ran_wires m l a b old lent) e ∙ wired n;
        }
      where
        found : judged (run_bytes_causes m (words m list) a b old lent) ≡ Ok tt → ran_result m (words m list) a b old lent ≡ result (bytes_for m) m list a b
        found n = rw (n, k.read_back)

        wired : judged (run_bytes_causes m (words m list) a b old lent) ≡ Ok tt → ran_wires m (words m list) a b old lent ≡ wires m list a b
        wired n = rw (n, k.read_back)

    runs_to : RunsToProduct m table list
    runs_to = record { is_written = λ out room. (list-none passed list out room, written out room); runs = runs }

  commons : CommonCounts m table
  commons = theorem_common m table shaped.least shaped.is_table accepted

  -- the counts are reported without a fault
  gates : (list : Netlist) {ands xors : ℕ} → Counted list ands xors → HasGates list (counts_call m table list) ands xors
  unfolding answered
  gates list h = record {
    holds_ands = h.and_count;
    holds_xors = h.xor_count;
    reports = rw symmetric (ap₂ counted_as h.and_count h.xor_count);
  }

  -- the XORs of the reduced list are a whole number: C is odd, and so is one of m and m-1 even
  halves : 2 * (m * (ones_in m table + m - 2) / 2) ≡ m * (ones_in m table + m - 2)
  halves = even-half m (ones_in m table) (pairs_below m table 0) shaped.least ((theorem_e m table shaped.least shaped.is_table).total accepted.symmetric 0 (let l = shaped.least in omega arith))

  under : UnderAccepted m table
  under = record {
    plain_product = multiplies;
    reduced_product = reduces;
    plain_run = runs_to (plain m table) lists.of_plain ran.of_plain;
    reduced_run = runs_to (reduced m table) lists.of_reduced ran.of_reduced;
    common_run = runs_to (common m table) lists.of_common ran.of_common;
    unit = theorem_h m table shaped.least shaped.is_table accepted;
    inverts = inverts;
    only = λ a b old x n w. only a old x n w b;
    logarithm = theorem_b.logarithm (m - 1) (let l = shaped.least in omega arith);
    count = λ a. theorem_b.products m table a shaped.least;
    many_ones = theorem_g m table shaped.least shaped.is_table accepted;
    plain_gates = gates (plain m table) lists.of_plain.counted;
    reduced_gates = (_, halves, gates (reduced m table) lists.of_reduced.counted);
    common_gates = λ d l full. gates (common m table) (commons.with_row d l full);
    other_gates = λ none. gates (common m table) (commons.without none);
  }

pub demand3 : Demand3
demand3 = record { check = fields; accepted = under }
