-- The proofs of Statements.
-- shape, symmetry, acceptance, fields, same_set_lem, first-triples, carried-pass. first_passes: rule 6 for i = 0 is enough.
use Rattle.std.specs.Prelude.{Ok, Err}
use mathlib.Core.Path.{◌≡◌, refl, sym, ap, ◌∙◌}
use mathlib.Core.Logic.{◌↔◌}
use mathlib.Core.Bool.{true}
use mathlib.Core.List.{List}
use Prim.Native.Nat.{ℕ, ◌-◌, ◌<◌, ◌≤◌}
use native.Mathlib.Omega.{arith}
use lib.Dec.{lit≤}
use Rattle.gf2.specs.Sums.{every}
use Rattle.gf2.specs.Operands.{max_width}
use Rattle.gf2.specs.Tables.{IsTable}
use Rattle.gf2.specs.Check.{Rule5, Rule6, Symmetric, Accepted}
use Rattle.gf2.proofs.Sums.{every-at}
use Rattle.gf2.proofs.Decisions.{same-decides}
use Rattle.gf2.proofs.Theorems.{theorem_a, theorem_f, theorem_i}
use Rattle.gf2.proofs.CarriedTables.{carried-tables}
use Rattle.judging.specs.declared.fault.Fault.{Fault}
use Rattle.judging.specs.declared.fault.Fault.TheVariants.{Width, Length, HighBit, RowZero, RowPair, Triple}
use Rattle.judging.specs.Faults.{number_of}
use Rattle.judging.specs.Causes.{Verdict, judged}
use Rattle.judging.specs.FaultTable.{shape_causes, row_pair_causes, rule_causes, symmetry_causes, triple_causes, check_causes}
use Rattle.judging.proofs.CauseLaws.{Fine, same_fault, ok_or_err, fine, none-given, none-fine, keeps, keeps-both}
use Rattle.judging.proofs.Searches.{fine-append, fine-parts, fine-from, fine-at, up_start, found_here, each_from}
use Rattle.judging.proofs.Passed.{are-same, same-passes}
use Rattle.table.specs.Carried.{carried2, carried3, carried4, carried5}
use Rattle.table.specs.Rows.{Shaped}
use Rattle.table.specs.Inner.{left_product, right_product, associates}
use Rattle.table.specs.Judgements.{triple_verdict, symmetry_verdict, check_verdict}
use Rattle.table.specs.Statements.{Shape, Symmetry, Acceptance, Fields, SameSet, FirstTriples, CarriedPass}
use Rattle.table.proofs.Shapes.{shape-passes, shape-rows, shape-fine}
use Rattle.table.proofs.Rules.{symmetric-rows, mirror_causes, pair_causes, row_causes}
use Rattle.table.proofs.CheckFaults.{of-symmetry}

pub shape : Shape
shape = shape-fine

module _ (m : ℕ) (t : List ℕ) where
  rule5 : Fine (row_pair_causes m t) ↔ ((d : ℕ) → 1 ≤ d → d < m → Rule5 m t d)
  rule5 = (
    λ p d l h. are-same _ _ (fine-at (mirror_causes m t) 1 (m - 1) p d l (omega arith)).0,
    λ r. fine-from (mirror_causes m t) 1 (m - 1) (λ d l h. (same-passes _ _ (r d l (omega arith)), tt)),
  )

  rule6 : Fine (triple_causes m t) ↔ ((i j : ℕ) → i < m → j < m → Rule6 m t i j)
  rule6 = (
    λ p i j li lj. are-same _ _ (fine-at (pair_causes m t i) 0 m (fine-at (row_causes m t) 0 m p i (omega arith) (omega arith)) j (omega arith) (omega arith)).0,
    λ r. fine-from (row_causes m t) 0 m (λ i l li. fine-from (pair_causes m t i) 0 m (λ j k lj. (same-passes _ _ (r i j (omega arith) (omega arith)), tt))),
  )

  pub rules : Fine (rule_causes m t) ↔ Symmetric m t
  rules = (
    λ p. record { rule4 = are-same _ _ p.0; rule5 = rule5.0 p.1 },
    λ s. (same-passes _ _ s.rule4, rule5.1 s.rule5),
  )

  symmetric : Fine (symmetry_causes m t) ↔ (Shaped m t × Symmetric m t)
  symmetric = (
    λ p. let q = fine-parts (shape_causes m t) (rule_causes m t) p in
        let s = rules.0 q.1 in
        (shape-rows (symmetric-rows s) q.0, s),
    λ h. fine-append (shape_causes m t) (rule_causes m t) (shape-passes h.0) (rules.1 h.1),
  )

pub symmetry : Symmetry
symmetry m t = (
  λ e. (symmetric m t).0 ((none-fine (symmetry_causes m t)).0 e),
  λ h. none-given (symmetry_causes m t) ((symmetric m t).1 h),
)

pub acceptance : Acceptance
acceptance m t = (
  λ e. let p = fine-parts (symmetry_causes m t) (triple_causes m t) ((none-fine (check_causes m t)).0 e) in
      let s = (symmetric m t).0 p.0 in
      (s.0, record { symmetric = s.1; rule6 = (rule6 m t).0 p.1 }),
  λ h. none-given (check_causes m t)
      (fine-append (symmetry_causes m t) (triple_causes m t) ((symmetric m t).1 (h.0, h.1.symmetric)) ((rule6 m t).1 h.1.rule6)),
)

pub fields : Fields
fields m t = (
  λ e. let h = (acceptance m t).0 e in
      let f = (theorem_a m t h.0.least h.0.is_table).0 h.1 in
      (h.0, f.0, f.1),
  λ h. (acceptance m t).1 (h.0, (theorem_a m t h.0.least h.0.is_table).1 (h.1, h.2)),
)

pub same_set_lem : SameSet
same_set_lem m t = (
  λ e. let h = (acceptance m t).0 e in
      let k = (theorem_i m t h.0.least h.0.is_table).0 h.1 in
      (h.0, k.0, k.1),
  λ h. (acceptance m t).1 (h.0, (theorem_i m t h.0.least h.0.is_table).1 (h.1, h.2)),
)

-- rule 6 for i = 0 is enough
module _ (m : ℕ) (t : List ℕ) (s : Shaped m t) (y : Symmetric m t) where
  first-enough : ((j : ℕ) → j < m → Rule6 m t 0 j) → triple_verdict m t ≡ Ok tt
  first-enough h = none-given (triple_causes m t) ((rule6 m t).1 (theorem_f m t s.least s.is_table y h))

  pub first_passes : every m (associates m t 0) ≡ true → triple_verdict m t ≡ Ok tt
  unfolding associates left_product right_product
  first_passes e = first-enough (λ j l. (same-decides _ _).0 (every-at m (associates m t 0) e j l))

-- no fault, a triple with i = 0, or another fault
abbrev First : Verdict → Type 0
First v = (i j : ℕ) → v ≡ Err (Triple i j) → i ≡ 0

other : (f : Fault) → ((number_of f).0 ≡ 6 → ⊥) → First (Err f)
other f n i j e = absurd (n (ap (λ g. (number_of g).0) (same_fault (Err f) refl e)))

no-fault : First (Ok tt)
no-fault i j e = ok_or_err (sym e)

module _ (m : ℕ) (t : List ℕ) where
  symmetry-first : First (symmetry_verdict m t)
  symmetry-first = of-symmetry First no-fault m t (other Width (λ e. omega arith)) (other Length (λ e. omega arith)) (other HighBit (λ e. omega arith))
      (other RowZero (λ e. omega arith)) (λ d l. other (RowPair d) (λ e. omega arith))

  first-row : First (judged (row_causes m t 0))
  first-row = keeps First no-fault (row_causes m t 0) (each_from First no-fault (pair_causes m t 0) 0 m (λ j l h. ((λ i k q. cc), λ e. tt)))

  -- the first round of the search finds a pair, or there is none
  triple-first : Shaped m t → Symmetric m t → First (triple_verdict m t)
  triple-first s y = go (judged (row_causes m t 0)) refl
    where
      go : (v : Verdict) → judged (row_causes m t 0) ≡ v → First (triple_verdict m t)
      go (Ok _) e = rw (first-enough m t s y (λ j l. are-same _ _ (fine-at (pair_causes m t 0) 0 m (fine (row_causes m t 0) e) j (omega arith) (omega arith)).0)) no-fault
      go (Err f) e =
          let l = s.least in
          rw (sym (ap judged (up_start (row_causes m t) m)) ∙ found_here (row_causes m t) m 0 (omega arith) e) (rw e at first-row)

pub first-triples : FirstTriples
first-triples m t = keeps-both First no-fault (symmetry_causes m t) (triple_causes m t) (symmetry-first m t) (λ p.
    let s = (symmetric m t).0 p in triple-first m t s.0 s.1)

pub carried-pass : CarriedPass
carried-pass = record {
  width2 = pass 2 carried2 (lit≤ tt) (lit≤ tt) carried-tables.width2;
  width3 = pass 3 carried3 (lit≤ tt) (lit≤ tt) carried-tables.width3;
  width4 = pass 4 carried4 (lit≤ tt) (lit≤ tt) carried-tables.width4;
  width5 = pass 5 carried5 (lit≤ tt) (lit≤ tt) carried-tables.width5;
}
  where
    pass : (m : ℕ) (t : List ℕ) → 2 ≤ m → m ≤ max_width → IsTable m t × Accepted m t → check_verdict m t ≡ Ok tt
    pass m t least greatest h = (acceptance m t).1 (record { least = least; greatest = greatest; is_table = h.0 }, h.1)
