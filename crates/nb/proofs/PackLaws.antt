-- Laws of packed answers: what comes back out of one, and that what is returned beside a fault has room in its bits.
-- Lists: over any list of causes. Tables and gate lists: 5, 6 and 21 return what is below the width. Cards: a card that is read.
use Rattle.std.specs.Prelude.{Ok, Err}
use mathlib.Core.Path.{◌≡◌, refl, ap, subst}
use mathlib.Core.Bool.{Bool, true, false, not, ◌&&◌}
use mathlib.Core.List.{List, [], ◌∷◌, ◌++◌}
use Prim.Native.Nat.{ℕ, ◌^◌, ◌<◌, ◌≤◌}
use native.Mathlib.Omega.{arith}
use lib.Dec.{ltb}
use lib.ListN.{length}
use borrow.Author.Tests.{lt-ltb, ltb-true, not-false}
use Rattle.gf2.specs.Operands.{max_width}
use Rattle.gf2.proofs.Parity.{and_both}
use Rattle.judging.specs.declared.fault.Fault.{Fault}
use Rattle.judging.specs.declared.fault.Fault.TheVariants.{RowPair, Triple, List as Listed}
use Rattle.judging.specs.declared.fault.ListFault.TheVariants.{Output}
use Rattle.judging.specs.Faults.{number_of}
use Rattle.judging.specs.Causes.{Cause, Verdict, judged, answered}
use Rattle.judging.specs.FaultTable.{high_bit_in_row, shape_causes, rule_causes, symmetry_causes, triple_causes, check_causes}
use Rattle.judging.proofs.CauseLaws.{Fine, Each, keeps, keeps-both}
use Rattle.judging.proofs.Searches.{each_from}
use Rattle.judging.proofs.Passed.{is-width}
use Rattle.table.proofs.CheckFaults.{of-rules, of-triples}
use Rattle.product.specs.Causes.{product_bytes_causes, reduced_bytes_causes}
use Rattle.equivalence.specs.Causes.{wrong_output, size_causes, table_causes, limit_causes, gate_causes, output_causes}
use Rattle.equivalence.specs.Calls.{accept_verdict}
use Rattle.card.specs.Numbers.{Read, refused, got}
use Rattle.card.specs.Cards.{lent_causes, lent_verdict, Table, read_card}
use Rattle.card.specs.Calls.{read_answer, read_call}
use Rattle.card.proofs.Refusals.{card-refusals}
use Rattle.nb.specs.Packing.{packed, packed_fault, value_limit, is_small, Packs, PacksVerdict, Unpacks}

-- what has room
pub record Small (f : Fault) : Type 0 where
  pub number : (number_of f).0 < 2 ^ 8
  pub first : (number_of f).1 < value_limit
  pub second : (number_of f).2 < value_limit

pub small_of : (f : Fault) → is_small f ≡ true → Small f
unfolding is_small
small_of f e =
    let p = and_both (ltb (number_of f).0 (2 ^ 8)) (ltb (number_of f).1 value_limit && ltb (number_of f).2 value_limit) e in
    let q = and_both (ltb (number_of f).1 value_limit) (ltb (number_of f).2 value_limit) p.1 in
    record { number = ltb-true _ _ p.0; first = ltb-true _ _ q.0; second = ltb-true _ _ q.1 }

-- a number of 8 bits and a value of 28 come back out, and with them what stands above
pub unpack : (number first second : ℕ) → number < 2 ^ 8 → first < value_limit → Unpacks (packed number first second) number first second
unpack number first second n f = record { number = omega arith; first = omega arith; second = omega arith }

-- a fault that has room comes back out
pub unpack-refused : (f : Fault) → is_small f ≡ true → Unpacks (packed_fault f) (number_of f).0 (number_of f).1 (number_of f).2
unfolding packed_fault
unpack-refused f e = let s = small_of f e in unpack (number_of f).0 (number_of f).1 (number_of f).2 s.number s.first

-- and so do the values of an answer without fault
pub unpack-answered : (first second : ℕ) → first < value_limit → Unpacks (packed 0 first second) 0 first second
unpack-answered first second f = unpack 0 first second (omega arith) f

-- an answer has room where its verdict has and the value of one without fault
pub packs-answered : {A : Type 0} (P : A → Type 0) (v : Verdict) {x : A} → PacksVerdict v → (v ≡ Ok tt → P x) → Packs P (answered v x)
unfolding answered
packs-answered P (Ok _) s h = h refl
packs-answered P (Err f) s h = s

-- causes whose faults have room: a test that computes where the faults return nothing
abbrev pub are_small : List Cause → Bool
are_small [] = true
are_small (c ∷ cs) = is_small c.fault && are_small cs

each-small : (cs : List Cause) → are_small cs ≡ true → Each PacksVerdict tt cs
each-small [] e = tt
each-small (c ∷ cs) e = let p = and_both (is_small c.fault) (are_small cs) e in (p.0, λ q. each-small cs p.1)

pub small-causes : (cs : List Cause) → are_small cs ≡ true → PacksVerdict (judged cs)
small-causes cs e = keeps PacksVerdict tt cs (each-small cs e)

-- the verdict of a list of causes, by the call that judges them
pub packs-causes : {v : Verdict} (cs : List Cause) → v ≡ judged cs → are_small cs ≡ true → PacksVerdict v
packs-causes cs e s = rw e (small-causes cs s)

pub small-both : (cs ds : List Cause) → PacksVerdict (judged cs) → (Fine cs → PacksVerdict (judged ds)) → PacksVerdict (judged (cs ++ ds))
small-both = keeps-both PacksVerdict tt

module _ (m : ℕ) (t : List ℕ) where
  module _ (h : m ≤ max_width) where
    pair_small : (d : ℕ) → d < m → is_small (RowPair d) ≡ true
    unfolding is_small
    pair_small d l = rw (lt-ltb d value_limit (omega arith))

    triple-small : (i j : ℕ) → i < m → j < m → is_small (Triple i j) ≡ true
    unfolding is_small
    triple-small i j k l = rw (lt-ltb i value_limit (omega arith), lt-ltb j value_limit (omega arith))

    small-rules : PacksVerdict (judged (rule_causes m t))
    unfolding is_small
    small-rules = of-rules PacksVerdict tt m t refl pair_small

    small-triples : PacksVerdict (judged (triple_causes m t))
    small-triples = of-triples PacksVerdict tt m t triple-small

  pub small-shape : PacksVerdict (judged (shape_causes m t))
  unfolding is_small
  small-shape = small-causes (shape_causes m t) refl

  pub small-symmetry : PacksVerdict (judged (symmetry_causes m t))
  small-symmetry = small-both (shape_causes m t) (rule_causes m t) small-shape (λ p. small-rules (is-width m p.0).greatest)

  pub small-check : PacksVerdict (judged (check_causes m t))
  small-check = small-both (symmetry_causes m t) (triple_causes m t) small-symmetry (λ p. small-triples (is-width m p.0).greatest)

  pub small-reduced : (a b old : List ℕ) → PacksVerdict (judged (reduced_bytes_causes m t a b old))
  unfolding is_small
  small-reduced a b old = small-both (product_bytes_causes m t a b old) (rule_causes m t) (small-causes (product_bytes_causes m t a b old) refl) (λ p. small-rules (is-width m p.0).greatest)

  -- a list to be accepted
  module _ (list : List ℕ) where
    small-outputs : m ≤ max_width → PacksVerdict (judged (output_causes m t list))
    small-outputs h = keeps PacksVerdict tt (output_causes m t list) (each_from PacksVerdict tt (λ r. wrong_output m t list r ∷ []) 0 m (λ r l k. (output-small r (omega arith), λ q. tt)))
      where
        output-small : (r : ℕ) → r < m → is_small (Listed (Output r)) ≡ true
        output-small r l = unfold is_small in rw (lt-ltb r value_limit (omega arith))

    pub small-accept : PacksVerdict (accept_verdict m t list)
    unfolding is_small
    small-accept =
        small-both (size_causes m t list) (table_causes m t ++ (limit_causes m list ++ (gate_causes m list ++ output_causes m t list))) (small-causes (size_causes m t list) refl) (λ p.
        let h = (is-width m p.0).greatest in
        small-both (table_causes m t) (limit_causes m list ++ (gate_causes m list ++ output_causes m t list))
        (small-both (high_bit_in_row m t ∷ []) (rule_causes m t) (small-causes (high_bit_in_row m t ∷ []) refl) (λ q. small-rules h)) (λ q.
        small-both (limit_causes m list) (gate_causes m list ++ output_causes m t list) (small-causes (limit_causes m list) refl) (λ r.
        small-both (gate_causes m list) (output_causes m t list) (small-causes (gate_causes m list) refl) (λ s. small-outputs h))))

-- whatever part of a card its fault is found in, and where none is a width that has room
pub packs-read : (P : ℕ → Type 0) (s old : List ℕ) → ((m : ℕ) → read_call s old ≡ Ok m → P m) → Packs P (read_call s old)
packs-read P s old h = go (read_card (length old) s) refl
  where
    small_lent : (m : ℕ) (f : Fault) → lent_verdict (length old) m ≡ Err f → not (is_small f) ≡ false
    small_lent m f e = ap not (subst PacksVerdict e (small-causes (lent_causes (length old) m) (unfold is_small in refl)))

    go : (x : Read Table) → read_card (length old) s ≡ x → Packs P (read_answer x)
    go (refused f) e = not-false _ (card-refusals (λ f. not (is_small f)) (length old)
        (unfold is_small in record { ends = refl; number = refl; form = refl; place = refl; tail = refl; lent = small_lent }) s f e)
    go (got t rest) e = h t.width (ap read_answer e)
