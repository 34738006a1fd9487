-- Laws of a whole list: the terms of each fold, the parts one after another, and its words in the buffer.
use Rattle.std.specs.Prelude.{None, Some}
use mathlib.Core.Path.{◌≡◌, refl, sym, ap, ap₂, ◌∙◌, subst}
use mathlib.Core.Bool.{Bool, true, false, not, ◌&&◌, and-false, and-true}
use mathlib.Core.List.{List, [], ◌∷◌, ◌++◌, append-nil}
use Prim.Native.Nat.{ℕ, ◌+◌, ◌-◌, ◌*◌, ◌/◌, ◌<◌, ◌≤◌}
use native.Mathlib.Nat.{zero-add, add-zero, mul-le-mul}
use native.Mathlib.Omega.{arith}
use lib.ListN.{length, get_or, set, take, drop, length-append}
use borrow.Rule.Slice.PartMut.{put_mid}
use Rattle.std.proofs.Common.{take_all}
use Rattle.std.proofs.lemmas.Slice.{put_mid-paste}
use lib.Seq.{sets, sets-eq, length-sets, take_at, get_or-set_same, set-set}
use lib.Dec.{ltb, eqb}
use Rattle.gf2.proofs.Sums.{sum-zero}
use Rattle.gf2.specs.Coordinates.{coord}
use Rattle.gf2.specs.Operands.{max_width, choose, minus}
use Rattle.gf2.specs.Tables.{IsTable, row}
use Rattle.gf2.proofs.Operands.{minus-lt}
use Rattle.table.specs.Rows.{Shaped}
use Rattle.netlist.specs.Gates.{Gate, Netlist, word_limit, gate_words, words}
use Rattle.netlist.specs.Lists.{each, only, pairs, ands, mixes, fold, end, start, folds, ends, folded, and_wire, mix_wire, has, is_shared, all_ones, plain_terms, plain, reduced_terms, reduced, shared_terms, shared_wire, other_terms, sharing}
use Rattle.netlist.specs.Statements.{Sized}
use Rattle.netlist.proofs.FoldLaws.{length-fold}
use Rattle.netlist.proofs.NetlistLaws.{length-ands, length-outputs}
use Rattle.netlist.proofs.ListLaws.{ones-at, pair-coord, shared-row}
use Rattle.netlist.proofs.TableLaws.{width-square}
use Rattle.netlist.proofs.StoreLaws.{sets-append, sets-whole}
use Rattle.netlist.proofs.WordLaws.{length-words}
use Rattle.list_pairs.specs.Pairs.{GatesPut, row_gates, pair_gate, pair_gates, pairs_from}
use Rattle.list_pairs.proofs.PutLaws.{each-most, only-most, put-more, pairs-fit, pairs-most}
use Rattle.list_folds.specs.declared.terms.Terms.{Terms}
use Rattle.list_folds.specs.declared.columns.Rows.{Rows}
use Rattle.list_folds.specs.declared.columns.Rows.TheVariants.{All, Full, Others}
use Rattle.list_folds.specs.TableFolds.{kept_bit, square_term, table_terms, fold_gates, fold_wires}
use Rattle.list_folds.proofs.TermLaws.{each-ext}
use Rattle.list_folds.proofs.FoldedLaws.{count_fits, Folded, folded-same}
use Rattle.list_writer.specs.Inner.{Written, listed}

-- the gates of pairs
pairs-ands : (m : ℕ) → pair_gates false m m ≡ ands m
unfolding pair_gates row_gates pair_gate ands pairs
pairs-ands m = refl

pairs-mixes : (m : ℕ) → pair_gates true m m ≡ mixes m
unfolding pair_gates row_gates pair_gate mixes pairs
pairs-mixes m = refl

-- what is folded: the rows, whether the pairs are mixed, and a last wire or none
abbrev pub none_last : Rows → Bool → Terms
none_last rows mixed = record { rows = rows; mixed = mixed; last = None }

abbrev pub others : ℕ → Terms
others w = record { rows = Others; mixed = false; last = Some w }

-- the terms of each list
pairs-ext : (m : ℕ) {f g : ℕ → ℕ → Bool} (w : ℕ → ℕ → ℕ) → ((i j : ℕ) → i < m → j < m → f i j ≡ g i j) → pairs m f w ≡ pairs m g w
unfolding pairs
pairs-ext m w e = each-ext m (λ i li. each-ext m (λ j lj. ap (λ b. only b (w i j)) (e i j li lj)))

module _ (m : ℕ) (table : List ℕ) (is : IsTable m table) where
  -- a pair's coordinate, where its row is kept
  row_has : (r i j : ℕ) → r < m → eqb (kept_bit All m table (minus m j i) (minus m r i)) 1 ≡ has m table r i j
  row_has r i j l = ap (λ x. eqb x 1) (sym (pair-coord m table is i j r l))

  row_shared : (r i j : ℕ) → i < m → eqb (kept_bit Full m table (minus m j i) (minus m r i)) 1 ≡ is_shared m table i j
  row_shared r i j li = go (all_ones m (row m table (minus m j i))) refl ∙ sym (shared-row m table is i j li)
    where
      go : (b : Bool) → all_ones m (row m table (minus m j i)) ≡ b → eqb (choose b (coord (row m table (minus m j i)) (minus m r i)) 0) 1 ≡ b
      go false e = refl
      go true e = ap (λ x. eqb x 1) (ones-at m table (row m table (minus m j i)) e (minus m r i) (minus-lt m r i (omega arith)))

  row_other : (r i j : ℕ) → r < m → i < m → eqb (kept_bit Others m table (minus m j i) (minus m r i)) 1 ≡ has m table r i j && not (is_shared m table i j)
  row_other r i j l li =
      go (not (all_ones m (row m table (minus m j i)))) ∙ ap₂ ◌&&◌ (row_has r i j l) (ap not (sym (shared-row m table is i j li)))
    where
      go : (b : Bool) → eqb (choose b (coord (row m table (minus m j i)) (minus m r i)) 0) 1 ≡ eqb (coord (row m table (minus m j i)) (minus m r i)) 1 && b
      go true = sym (and-true (eqb (coord (row m table (minus m j i)) (minus m r i)) 1))
      go false = sym (and-false (eqb (coord (row m table (minus m j i)) (minus m r i)) 1))

  plain-terms : (r : ℕ) → r < m → table_terms (none_last All false) m table r ≡ plain_terms m table r
  unfolding table_terms plain_terms square_term only
  plain-terms r l = append-nil _ ∙ pairs-ext m (and_wire m) (λ i j li lj. row_has r i j l)

  reduced-terms : (r : ℕ) → r < m → table_terms (none_last All true) m table r ≡ reduced_terms m table r
  unfolding table_terms reduced_terms square_term only
  reduced-terms r l = ap (λ z. and_wire m (minus m r 1) (minus m r 1) ∷ z) (append-nil _ ∙ pairs-ext m (mix_wire m) (λ i j li lj. ap (λ b. ltb i j && b) (row_has r i j l)))

  shared-terms : (r : ℕ) → r < m → table_terms (none_last Full false) m table r ≡ shared_terms m table
  unfolding table_terms shared_terms square_term only
  shared-terms r l = append-nil _ ∙ pairs-ext m (and_wire m) (λ i j li lj. row_shared r i j li)

  other-terms : {w : ℕ} → w ≡ shared_wire m table → (r : ℕ) → r < m → table_terms (others w) m table r ≡ other_terms m table r
  unfolding table_terms other_terms square_term only
  other-terms e r l = ap₂ (λ z w. z ++ (w ∷ [])) (pairs-ext m (and_wire m) (λ i j li lj. row_other r i j l li)) e

  shared-few : length (shared_terms m table) ≤ m * m
  unfolding shared_terms pairs
  shared-few = each-most m m _ (λ i. omega (arith, each-most m 1 (λ j. only (is_shared m table i j) (and_wire m i j)) (λ j. only-most (is_shared m table i j) (and_wire m i j))))

-- the shared pairs: one fold, and its wire
one-fold : (n : ℕ) (T : ℕ → List ℕ) → folds 1 n T ≡ fold n (T 0)
unfolding folds each start
one-fold n T = ap (λ k. fold k (T 0)) (ap (λ k. n + k) (sum-zero (λ k. length (T k) - 1)) ∙ add-zero n)

one_end : (n : ℕ) (T : ℕ → List ℕ) → ends 1 n T ≡ end n (T 0) ∷ []
unfolding ends each start
one_end n T = ap (λ k. end k (T 0) ∷ []) (ap (λ k. n + k) (sum-zero (λ k. length (T k) - 1)) ∙ add-zero n)

overwritten : (l os : List ℕ) (e : ℕ) → 0 < length os → sets (sets l 0 (e ∷ [])) 0 os ≡ sets l 0 os
overwritten l [] e h = absurd (omega arith)
overwritten l (o ∷ os) e h = ap (λ z. sets z 1 os) (set-set l 0 e o)

-- a list: the gates before the folds, then these
list_written : (t : Terms) {m n k : ℕ} {table : List ℕ} {gates : List Gate} {U : ℕ → List ℕ} {old mid wires out new : List ℕ} → Shaped m table → n < word_limit / 2 → GatesPut 0 old gates n mid →
    ((r : ℕ) → r < m → table_terms t m table r ≡ U r) → GatesPut n mid (fold_gates t m table m n) k out × (new ≡ sets wires 0 (fold_wires t m table m n)) → Written (folded m gates U) old wires out new
unfolding folded
list_written t {m = m} {gates = gates} h few p e x =
    let start-at = p.next ∙ zero-add (length gates) in
    let f = count_fits {count = m} h.least h.greatest few (omega arith) in
    let y = folded-same (sym f) (λ r l. e r (omega (arith, f))) (record { put = x.0; sums = x.1 }) in
    record { words = rw start-at at (put-more p y.put).words; outputs = rw start-at at y.sums }

-- the plain, the reduced and the sharing list
module _ {m : ℕ} {table : List ℕ} (h : Shaped m table) {n : ℕ} {old mid : List ℕ} (p : GatesPut 0 old (pairs_from false m 0) n mid) where
  put-ands : GatesPut 0 old (ands m) n mid
  put-ands = rw (pairs-fit {n = 0} h.least h.greatest (omega arith) false ∙ pairs-ands m) at p

  ands-number : n ≡ m * m
  ands-number = put-ands.next ∙ zero-add (length (ands m)) ∙ length-ands m

  ands-few : n + m * m < word_limit / 2
  ands-few = omega (arith, ands-number, width-square m m h.greatest h.greatest)

  pub plain-written : {k : ℕ} {wires out new : List ℕ} → GatesPut n mid (fold_gates (none_last All false) m table m n) k out × (new ≡ sets wires 0 (fold_wires (none_last All false) m table m n)) →
      Written (plain m table) old wires out new
  unfolding plain
  plain-written x = list_written (none_last All false) h (omega (arith, ands-few)) put-ands (plain-terms m table h.is_table) x

  module _ {q : ℕ} {next : List ℕ} (y : GatesPut n mid (pairs_from true m n) q next) where
    put-mixed : GatesPut n mid (pair_gates true m m) q next
    put-mixed = rw (pairs-fit {n = n} h.least h.greatest (omega (arith, ands-few)) true) at y

    pub reduced-written : {k : ℕ} {wires out new : List ℕ} → GatesPut q next (fold_gates (none_last All true) m table m q) k out × (new ≡ sets wires 0 (fold_wires (none_last All true) m table m q)) →
        Written (reduced m table) old wires out new
    unfolding reduced
    reduced-written x = list_written (none_last All true) h (omega (arith, ands-few, put-mixed.next, pairs-most true m m)) (put-more put-ands (rw (pairs-mixes m) at put-mixed)) (reduced-terms m table h.is_table) x

  module _ {q : ℕ} {next sums : List ℕ} (wires : List ℕ) (some : 1 ≤ length wires)
      (x : GatesPut n mid (fold_gates (none_last Full false) m table 1 n) q next × (sums ≡ sets wires 0 (fold_wires (none_last Full false) m table 1 n))) where
    abbrev terms : List ℕ
    terms = shared_terms m table

    one : Folded m 1 n (λ r. terms) mid wires q next sums
    one =
        let few : n < word_limit / 2 = omega (arith, ands-few) in
        let f = count_fits {count = 1} h.least h.greatest few (omega (arith, h.least)) in
        folded-same (sym f) (λ r l. shared-terms m table h.is_table r (omega (arith, f, h.least))) (record { put = x.0; sums = x.1 })

    shared-put : GatesPut 0 old (ands m ++ fold (2 * m + m * m) terms) q next
    shared-put = put-more put-ands (subst (λ z. GatesPut n mid z q next) (one-fold (2 * m + n) (λ r. terms) ∙ ap (λ k. fold (2 * m + k) terms) ands-number) one.put)

    sum_of : sums ≡ set wires 0 (shared_wire m table)
    sum_of = one.sums ∙ ap (sets wires 0) (one_end (2 * m + n) (λ r. terms)) ∙ ap (λ k. set wires 0 (end (2 * m + k) terms)) ands-number

    pub sharing-written : {k : ℕ} {out new : List ℕ} → GatesPut q next (fold_gates (others (get_or sums 0 0)) m table m q) k out × (new ≡ sets sums 0 (fold_wires (others (get_or sums 0 0)) m table m q)) →
        Written (sharing m table) old wires out new
    unfolding sharing
    sharing-written y =
        let w = list_written (others (get_or sums 0 0)) h few shared-put (other-terms m table h.is_table (ap (λ z. get_or z 0 0) sum_of ∙ get_or-set_same wires 0 (shared_wire m table) 0 some)) y in
        record { words = w.words; outputs = w.outputs ∙ ap (λ z. sets z 0 outs.outputs) sum_of ∙ overwritten wires outs.outputs (shared_wire m table) (omega (arith, length-outputs m gates (other_terms m table), h.least)) }
      where
        gates : List Gate
        gates = ands m ++ fold (2 * m + m * m) terms

        outs : Netlist
        outs = folded m gates (other_terms m table)

        few : q < word_limit / 2
        few = omega (arith, shared-put.next, length-append (ands m) (fold (2 * m + m * m) terms), length-ands m, length-fold (2 * m + m * m) terms, shared-few m table h.is_table, ands-number, ands-few)

pub outputs-length : {list : Netlist} {old wires out sums : List ℕ} → Written list old wires out sums → length sums ≡ length wires
outputs-length {list} {wires = wires} x = ap length x.outputs ∙ length-sets wires 0 list.outputs

-- every gate's number and every wire is a word
pub few_words_lem : (m g : ℕ) → m ≤ max_width → g ≤ m * m * m → 3 * g + m * m + 3 * m + 2 < word_limit
few_words_lem m g h l = omega (arith, width-square m m h h, mul-le-mul {n₁ = m * m} {m₁ = m} {n₂ = max_width * max_width} {m₂ = max_width} (width-square m m h h) h)

-- words that are copied to place i are stored there one after another
pub copied_sets : (l vs : List ℕ) (i n : ℕ) → n ≡ length vs → i + n ≤ length l → put_mid i n l vs ≡ sets l i vs
copied_sets l vs i n e h = put_mid-paste i n l vs vs n refl refl e ∙ ap₂ (λ x k. take i l ++ x ++ drop (i + k) l) (take_all n vs (omega (arith, e))) e ∙ sym (sets-eq vs l i (omega (arith, e)))

-- a whole list: its words are stored from the front
module _ {m : ℕ} {list : Netlist} (z : Sized m list) where
  pub outputs-number : length list.outputs ≡ m
  outputs-number = omega (arith, z.by_gates, parts)
    where
      parts : length (words m list) ≡ 2 + (3 * length list.gates + length list.outputs)
      parts = unfold words in omega (arith, length-append (gate_words list.gates) list.outputs, length-words list.gates)

  pub list_done : {g : ℕ} (old : List ℕ) {head mid wires sums out : List ℕ} → g ≡ length list.gates → head ≡ set (set old 0 m) 1 g → Written list head wires mid sums → m ≤ length wires →
      out ≡ sets mid (2 + 3 * g) (take m sums) → 2 + 3 * g + m ≤ length old → out ≡ listed m list old
  list_done {g} old {head} {mid} {wires} {sums} {out} e h w l o r = o
      ∙ ap₂ (λ x y. sets x (2 + 3 * g) y) (w.words ∙ ap (λ x. sets x 2 (gate_words list.gates)) h) taken
      ∙ ap (λ x. sets (sets (set (set old 0 m) 1 g) 2 (gate_words list.gates)) x list.outputs) (omega (arith, e, length-words list.gates))
      ∙ sym (sets-append (set (set old 0 m) 1 g) 2 (gate_words list.gates) list.outputs)
      ∙ ap (λ x. sets (set (set old 0 m) 1 x) 2 (gate_words list.gates ++ list.outputs)) e
      ∙ ap (sets old 0) all ∙ sets-whole old (words m list) (omega (arith, e, z.by_gates))
    where
      all : m ∷ length list.gates ∷ gate_words list.gates ++ list.outputs ≡ words m list
      all = unfold words in refl

      taken : take m sums ≡ list.outputs
      taken = ap (take m) (w.outputs ∙ sets-whole wires list.outputs (omega (arith, outputs-number))) ∙ take_at list.outputs _ m outputs-number
