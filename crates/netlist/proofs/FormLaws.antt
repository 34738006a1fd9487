-- The gates of the three lists of a table are of the form that a list to be accepted has: ANDs of one a wire and one b wire, XORs of gates.
-- Folds: of terms that are gates. Lists: plain, reduced and common. Words: the same of words that are read as such a list.
use mathlib.Core.Logic.{inl}
use mathlib.Core.Bool.{Bool, not, ◌&&◌}
use mathlib.Core.List.{List, [], ◌∷◌, ◌++◌}
use Prim.Native.Nat.{ℕ, zero, suc, ◌+◌, ◌*◌, ◌<◌, ◌≤◌}
use native.Mathlib.Nat.{mul-pos}
use native.Mathlib.Omega.{arith}
use lib.ListN.{length}
use lib.Dec.{ltb}
use Rattle.gf2.specs.Tables.{IsTable}
use Rattle.gf2.specs.Check.{Symmetric}
use Rattle.netlist.specs.Gates.{Gate, AND, XOR}
use Rattle.netlist.specs.Lists.{pairs, and_wire, ands, onto, last_wire, fold, end, start, folds, folded, has, plain_terms, plain, mixes, mix_wire, reduced_terms, reduced, full_rows, is_shared, shared_terms, shared_wire, other_terms, sharing, common}
use Rattle.netlist.specs.Running.{gate_of, kind_at, left_at, right_at, gate_count, gates_to, read_list}
use Rattle.netlist.specs.Judgements.{InForm}
use Rattle.netlist.proofs.FoldLaws.{All, all_append, all_one, all_cons, all-each, all-pairs, all-at, length-single, get_or-single}
use Rattle.netlist.proofs.ListLaws.{length-shared, by_rows}

module _ (m : ℕ) where
  abbrev GateFormed : Gate → Type 0
  GateFormed (AND left right) = InForm m 0 left right
  GateFormed (XOR left right) = InForm m 1 left right

  abbrev pub Formed : List Gate → Type 0
  Formed = All GateFormed

  -- these wires are gates'
  abbrev Above : List ℕ → Type 0
  Above = All (λ wire. 2 * m ≤ wire)

  -- Folds
  formed-onto : (n w : ℕ) (ts : List ℕ) → 2 * m ≤ n → 2 * m ≤ w → Above ts → Formed (onto n w ts)
  unfolding All onto
  formed-onto n w [] h l b = tt
  formed-onto n w (t ∷ ts) h l b = let k = b.0 in ((omega arith, omega arith), formed-onto (suc n) n ts (omega arith) h b.1)

  formed-fold : (n : ℕ) (l : List ℕ) → 2 * m ≤ n → Above l → Formed (fold n l)
  unfolding All
  formed-fold n [] h b = tt
  formed-fold n (w ∷ ts) h b = formed-onto n w ts h b.0 b.1

  last-above : (n w : ℕ) (ts : List ℕ) → 2 * m ≤ n → 2 * m ≤ w → 2 * m ≤ last_wire n w ts
  unfolding last_wire
  last-above n w [] h l = l
  last-above n w (t ∷ ts) h l = last-above (suc n) n ts (omega arith) h

  end-above : (n : ℕ) (l : List ℕ) → 2 * m ≤ n → 0 < length l → Above l → 2 * m ≤ end n l
  unfolding All
  end-above n [] h p b = absurd (omega arith)
  end-above n (w ∷ ts) h p b = last-above n w ts h b.0

  folded-formed : (gates : List Gate) (terms : ℕ → List ℕ) → Formed gates → ((r : ℕ) → r < m → Above (terms r)) → Formed (folded m gates terms).gates
  unfolding folded folds start
  folded-formed gates terms g t = all_append _ gates _ g (all-each _ m _ (λ r l. formed-fold _ (terms r) (omega arith) (t r l)))

  -- Lists
  ands-formed : Formed (ands m)
  unfolding ands
  ands-formed = all-pairs _ m _ _ (λ i j li lj e. inl (li, (omega arith, omega arith)))

  mixes-formed : Formed (mixes m)
  unfolding mixes
  mixes-formed = all-pairs _ m _ _ (λ i j li lj e. (omega arith, omega arith))

  ands-above : (test : ℕ → ℕ → Bool) → Above (pairs m test (and_wire m))
  ands-above test = all-pairs _ m test (and_wire m) (λ i j li lj e. omega arith)

  module _ (table : List ℕ) where
    pub plain-formed : Formed (plain m table).gates
    unfolding plain plain_terms
    plain-formed = folded-formed (ands m) (plain_terms m table) ands-formed (λ r l. ands-above (has m table r))

    pub reduced-formed : Formed (reduced m table).gates
    unfolding reduced reduced_terms
    reduced-formed = folded-formed (ands m ++ mixes m) (reduced_terms m table) (all_append _ (ands m) (mixes m) ands-formed mixes-formed) (λ r l.
        all_cons _ _ _ (omega arith) (all-pairs _ m (λ i j. ltb i j && has m table r i j) (mix_wire m) (λ i j li lj e. omega arith)))

    shared-above : Above (shared_terms m table)
    unfolding shared_terms
    shared-above = ands-above (is_shared m table)

    module _ (two : 2 ≤ m) (is : IsTable m table) (s : Symmetric m table) where
      shared-wire : 0 < full_rows m table → 2 * m ≤ shared_wire m table
      shared-wire some = end-above (2 * m + m * m) (shared_terms m table) (omega arith) (rw (length-shared m table two is s) (mul-pos (omega arith) some)) shared-above

      sharing-formed : 0 < full_rows m table → Formed (sharing m table).gates
      unfolding sharing other_terms
      sharing-formed some = folded-formed _ (other_terms m table) (all_append _ (ands m) _ ands-formed (formed-fold _ (shared_terms m table) (omega arith) shared-above)) (λ r l.
          all_append _ _ _ (ands-above (λ i j. has m table r i j && not (is_shared m table i j))) (all_one _ _ (shared-wire some)))

      pub common-formed : Formed (common m table).gates
      common-formed = by_rows m table two is s (λ list. Formed list.gates) plain-formed sharing-formed

  -- Words
  of-form : (kind left right : ℕ) → GateFormed (gate_of kind left right) → InForm m kind left right
  of-form zero left right h = h
  of-form (suc kind) left right h = h

  pub words-formed : (list : List ℕ) → Formed (read_list list m).gates → (k : ℕ) → k < gate_count list → InForm m (kind_at list k) (left_at list k) (right_at list k)
  unfolding read_list gates_to
  words-formed list h k l =
      of-form (kind_at list k) (left_at list k) (right_at list k) (rw (get_or-single (gate_count list) (λ k. gate_of (kind_at list k) (left_at list k) (right_at list k)) (AND 0 0) k l)
      at (all-at GateFormed (AND 0 0) _ k h (rw (length-single (gate_count list) (λ k. gate_of (kind_at list k) (left_at list k) (right_at list k))) l)))
