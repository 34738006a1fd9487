-- Laws of the terms: the ones of a column, the pairs of a row, all pairs for r; and the same by the table.
use Rattle.std.specs.Prelude.{Option, None, Some, option_to_list}
use mathlib.Core.Path.{◌≡◌, refl, sym, ap, ap₂, ◌∙◌, subst}
use mathlib.Core.Bool.{Bool, true, false, ◌&&◌}
use mathlib.Core.List.{List, [], ◌∷◌, ◌++◌, append-nil, append_assoc}
use Prim.Native.Nat.{ℕ, zero, suc, ◌+◌, ◌-◌, ◌*◌, ◌/◌, ◌<◌, ◌≤◌}
use native.Mathlib.Nat.{suc-mul, mul-add, mul-one, mul-le-mul, add-zero, add_assoc}
use native.Mathlib.Numerals.{add-one}
use native.Mathlib.Decide.{dec_lt}
use native.Mathlib.Omega.{arith}
use lib.ListN.{length, length-append}
use lib.Dec.{ltb, eqb}
use borrow.Author.Tests.{lt-ltb, le-ltb}
use Rattle.gf2.specs.Sums.{sum}
use Rattle.gf2.specs.Operands.{max_width, minus}
use Rattle.gf2.proofs.Sums.{sum-ext, sum-next, sum-zero}
use Rattle.gf2.proofs.Operands.{minus-lt, minus-below, minus-round}
use Rattle.limbs.specs.Limbs.{carried_limbs}
use Rattle.netlist.specs.Gates.{word_limit}
use Rattle.netlist.specs.Lists.{each, only, pairs, before, and_wire}
use Rattle.gf2.proofs.Counts.{num}
use Rattle.netlist.proofs.TableLaws.{width-square}
use Rattle.list_pairs.proofs.PutLaws.{each-most, only-most}
use Rattle.list_folds.specs.declared.fold.Fold.{Fold}
use Rattle.list_folds.specs.declared.terms.Terms.{Terms}
use Rattle.list_folds.specs.TableFolds.{in_order, pair_wire, square_term, table_terms}
use Rattle.list_folds.specs.Folds.{Pushed}
use Rattle.list_folds.specs.Columns.{is_set, Columns, Readable, Successor}
use Rattle.list_folds.specs.Terms.{Run, row_base, picks, run_terms, row_terms, rows_to, fold_terms}
use Rattle.list_folds.proofs.WriteLaws.{push-none, push-more, push-only}

-- lists one after another
pub each-ext : {A : Type 0} (n : ℕ) {f g : ℕ → List A} → ((k : ℕ) → k < n → f k ≡ g k) → each n f ≡ each n g
unfolding each
each-ext zero e = refl
each-ext (suc n) e = ap₂ ◌++◌ (each-ext n (λ k l. e k (omega arith))) (e n (omega arith))

each-split : {A : Type 0} (n k : ℕ) (f : ℕ → List A) → each (n + k) f ≡ each n f ++ each k (λ i. f (n + i))
unfolding each
each-split n zero f = ap (λ i. each i f) (add-zero n) ∙ sym (append-nil _)
each-split n (suc k) f =
    let e : n + suc k ≡ suc (n + k) = omega arith in
    ap (λ i. each i f) e ∙ ap (λ z. z ++ f (n + k)) (each-split n k f) ∙ append_assoc (each n f) (each k (λ i. f (n + i))) (f (n + k))

each_none : {A : Type 0} (n : ℕ) {f : ℕ → List A} → ((k : ℕ) → k < n → f k ≡ []) → each n f ≡ []
unfolding each
each_none zero e = refl
each_none (suc n) e = ap₂ ◌++◌ (each_none n (λ k l. e k (omega arith))) (e n (omega arith))

-- the ones of a column
module _ (test : ℕ → Bool) (start from : ℕ) where
  run_none : run_terms test start from 0 ≡ []
  unfolding run_terms each
  run_none = refl

  run_more : (k : ℕ) → run_terms test start from (k + 1) ≡ run_terms test start from k ++ only (test (from + k)) (start + (from + k))
  unfolding run_terms each
  run_more k = rw add-one

  -- numbers that do not pass leave nothing
  run-skip : (k n : ℕ) → k ≤ n → ((d : ℕ) → from + k ≤ d → d < from + n → test d ≡ false) → run_terms test start from n ≡ run_terms test start from k
  unfolding only
  run-skip k zero h f = let e : 0 ≡ k = omega arith in ap (run_terms test start from) e
  run-skip k (suc n) h f = elim (dec_lt n k) [
    | yes l ↦ let e : suc n ≡ k = omega arith in ap (run_terms test start from) e
    | no l ↦ sym (ap (run_terms test start from) (add-one n)) ∙ run_more n ∙ ap (λ b. run_terms test start from n ++ only b (start + (from + n))) (f (from + n) (omega arith) (omega arith))
        ∙ append-nil _ ∙ run-skip k n (omega arith) (λ d g ld. f d g (omega arith))
  ]

  pub run-most : (n : ℕ) → length (run_terms test start from n) ≤ n
  unfolding run_terms
  run-most n = omega (arith, each-most n 1 (λ k. only (test (from + k)) (start + (from + k))) (λ k. only-most (test (from + k)) (start + (from + k))), mul-one n)

  pub run-first : {m n to : ℕ} {f : Fold} {old : List ℕ} → Successor test to from n → Pushed m f old (run_terms test start from (n - from)) f old
  run-first {m} {n} {f = f} {old} s = rw (run-skip 0 (n - from) (omega arith) (λ d g l. s.none d (omega arith) (omega arith)) ∙ run_none) (push-none m f old)

  pub run-next : {m d n to : ℕ} {f g h : Fold} {old mid out : List ℕ} → from ≤ d → test d ≡ true → Pushed m f old (run_terms test start from (d - from)) g mid →
      Pushed m g mid ((start + d) ∷ []) h out → Successor test to (d + 1) n → Pushed m f old (run_terms test start from (n - from)) h out
  run-next {m} {d} {n} {f = f} {g} {h} {old} {mid} {out} b e p q s =
      rw (run-skip (d - from + 1) (n - from) (omega (arith, s.least)) (λ k x l. s.none k (omega arith) (omega arith)) ∙ run_more (d - from))
      (push-more p (push-only (ap test at-d ∙ e) (ap (λ k. start + k) (sym at-d)) q))
    where
      at-d : from + (d - from) ≡ d
      at-d = omega arith

-- the numbers above k
above : (n k : ℕ) → sum n (λ l. num (ltb k l)) ≡ n - suc k
above zero k = sum-zero (λ l. num (ltb k l)) ∙ omega arith
above (suc n) k = sum-next (λ l. num (ltb k l)) n ∙ elim (dec_lt k n) [
  | yes h ↦ omega (arith, above n k, ap num (lt-ltb k n h))
  | no h ↦ omega (arith, above n k, ap num (le-ltb k n (omega arith)))
]

-- with x = 2m - 2i - 2
next-rows : (i x : ℕ) → suc i * (i + x) ≡ i * (i + x + 1) + x
next-rows i x = omega (arith, suc-mul i (i + x), mul-add i (i + x) 1, mul-one i)

twice : (s m i : ℕ) → i < m → 2 * (s + (m - suc i)) ≡ 2 * s + (2 * m - 2 * i - 2)
twice s m i l = omega arith

rows_above : (m i : ℕ) → i < m → 2 * sum i (λ k. m - suc k) ≡ i * (2 * m - i - 1)
rows_above m zero l = omega (arith, sum-zero (λ k. m - suc k))
rows_above m (suc i) l =
    let x = 2 * m - 2 * i - 2 in
    let e : i + x ≡ 2 * m - suc i - 1 = omega arith in
    let f : 2 * m - i - 1 ≡ i + x + 1 = omega arith in
    ap (λ k. 2 * k) (sum-next (λ k. m - suc k) i) ∙ twice (sum i (λ k. m - suc k)) m i (omega arith) ∙ ap (λ k. k + x) (rows_above m i (omega arith))
    ∙ ap (λ k. i * k + x) f ∙ sym (next-rows i x) ∙ ap (λ k. suc i * k) e

-- where the XOR of a pair stands
before-mix : (m i j : ℕ) → i < j → j < m → before m ltb i j ≡ i * (2 * m - i - 1) / 2 + (j - i - 1)
unfolding before
before-mix m i j h l =
    ap₂ ◌+◌ (sum-ext i _ _ (λ k g. above m k)) (above j i) ∙ omega (arith, rows_above m i (omega arith))

-- a wire of the pairs, and what stands beside it in a sum
pub rows-product : (m i : ℕ) → i < m → m ≤ max_width → i * (2 * m - i - 1) ≤ max_width * (2 * max_width)
rows-product m i l h = mul-le-mul {n₁ = i} {m₁ = 2 * m - i - 1} {n₂ = max_width} {m₂ = 2 * max_width} (omega arith) (omega arith)

pub base-most : (mixed : Bool) (m i : ℕ) → i < m → m ≤ max_width → row_base mixed m i + i + m ≤ 3 * (max_width * max_width) + 4 * max_width
base-most false m i l h = omega (arith, width-square i m (omega arith) h)
base-most true m i l h = omega (arith, width-square m m h h, rows-product m i l h)

-- a run of row i
pub row-run : (mixed : Bool) {m : ℕ} {columns firsts : List ℕ} {at base i from to start n : ℕ} → Readable m columns firsts → i < m → at < m → base ≡ row_base mixed m i →
    from ≤ to → to ≤ m → start ≤ base + i → 2 * m + n + (to - from) < word_limit → Run m columns (at * carried_limbs) from to start n
row-run mixed {m} {i = i} z li la e o t s f = record {
  order = o;
  inside = t;
  room = omega (arith, z.room.room);
  gates = f;
  wires = omega (arith, e, base-most mixed m i li z.room.greatest);
}

-- the pairs of a row
module _ (m : ℕ) (columns : List ℕ) (r i : ℕ) (li : i < m) where
  abbrev test : ℕ → Bool
  test = is_set columns (minus m r i * carried_limbs)

  pub row_plain : row_terms false m columns r i ≡ run_terms test (row_base false m i + i - m) (m - i) (m - (m - i)) ++ run_terms test (row_base false m i + i) 0 (m - i - 0)
  unfolding row_terms run_terms picks
  row_plain =
      ap (λ n. each n (λ j. only (test (minus m j i)) (2 * m + (i * m + j)))) parts ∙ each-split (m - (m - i)) (m - i - 0) (λ j. only (test (minus m j i)) (2 * m + (i * m + j)))
      ∙ ap₂ ◌++◌
      (each-ext (m - (m - i)) (λ k l. ap₂ only (ap test (minus-round m k i (omega arith) li ∙ omega arith)) (omega arith)))
      (each-ext (m - i - 0) (λ k l. ap₂ only (ap test (minus-below m (m - (m - i) + k) i (omega arith) (omega arith) ∙ omega arith)) (omega arith)))
    where
      parts : m ≡ m - (m - i) + (m - i - 0)
      parts = omega arith

  pub row-mixed : row_terms true m columns r i ≡ run_terms test (row_base true m i + i) 1 (m - i - 1)
  unfolding row_terms run_terms picks only
  row-mixed =
      ap (λ n. each n (λ j. only (ltb i j && test (minus m j i)) (pair_wire true m i j))) parts ∙ each-split (i + 1) (m - i - 1) (λ j. only (ltb i j && test (minus m j i)) (pair_wire true m i j))
      ∙ ap₂ ◌++◌
      (each_none (i + 1) (λ k l. ap (λ b. only (b && test (minus m k i)) (pair_wire true m i k)) (le-ltb i k (omega arith))))
      (each-ext (m - i - 1) (λ k l. ap₂ only
      (ap₂ ◌&&◌ (lt-ltb i (i + 1 + k) (omega arith)) (ap test (minus-below m (i + 1 + k) i (omega arith) (omega arith) ∙ omega arith)))
      (wire k (omega arith))))
    where
      base : (x y i k : ℕ) → i + 1 ≤ x → x + (y + k) ≡ x + y - i - 1 + i + (1 + k)
      base x y i k h = omega arith

      wire : (k : ℕ) → i + 1 + k < m → pair_wire true m i (i + 1 + k) ≡ row_base true m i + i + (1 + k)
      wire k l =
          let z : i + 1 + k - i - 1 ≡ k = omega arith in
          ap (λ b. 2 * m + (m * m + b)) (before-mix m i (i + 1 + k) (omega arith) l ∙ ap (λ j. i * (2 * m - i - 1) / 2 + j) z) ∙ sum_one ∙ base (2 * m + m * m) (i * (2 * m - i - 1) / 2) i k (omega arith)
        where
          sum_one : 2 * m + (m * m + (i * (2 * m - i - 1) / 2 + k)) ≡ 2 * m + m * m + (i * (2 * m - i - 1) / 2 + k)
          sum_one = sym (add_assoc (2 * m) (m * m) (i * (2 * m - i - 1) / 2 + k))

      parts : m ≡ i + 1 + (m - i - 1)
      parts = omega arith

-- the same as they are pushed
module _ {m : ℕ} (columns : List ℕ) (r : ℕ) {i : ℕ} {mixed : Bool} {at base : ℕ} {f g : Fold} {old out : List ℕ} (li : i < m) (ea : at ≡ minus m r i) (eb : base ≡ row_base mixed m i) where
  pub push-mixed : mixed ≡ true → Pushed m f old (run_terms (is_set columns (at * carried_limbs)) (base + i) 1 (m - i - 1)) g out → Pushed m f old (row_terms mixed m columns r i) g out
  push-mixed e p = subst (λ z. Pushed m f old z g out) same p
    where
      same : run_terms (is_set columns (at * carried_limbs)) (base + i) 1 (m - i - 1) ≡ row_terms mixed m columns r i
      same = ap₂ (λ x y. run_terms (is_set columns (x * carried_limbs)) (y + i) 1 (m - i - 1)) ea (eb ∙ ap (λ z. row_base z m i) e) ∙ sym (row-mixed m columns r i li) ∙ ap (λ z. row_terms z m columns r i) (sym e)

  pub push-plain : {h : Fold} {mid : List ℕ} → mixed ≡ false → Pushed m f old (run_terms (is_set columns (at * carried_limbs)) (base + i - m) (m - i) (m - (m - i))) h mid →
      Pushed m h mid (run_terms (is_set columns (at * carried_limbs)) (base + i) 0 (m - i - 0)) g out → Pushed m f old (row_terms mixed m columns r i) g out
  push-plain e p q = subst (λ z. Pushed m f old z g out) same (push-more p q)
    where
      same : run_terms (is_set columns (at * carried_limbs)) (base + i - m) (m - i) (m - (m - i)) ++ run_terms (is_set columns (at * carried_limbs)) (base + i) 0 (m - i - 0) ≡ row_terms mixed m columns r i
      same = ap₂ (λ x y. run_terms (is_set columns (x * carried_limbs)) (y + i - m) (m - i) (m - (m - i)) ++ run_terms (is_set columns (x * carried_limbs)) (y + i) 0 (m - i - 0)) ea (eb ∙ ap (λ z. row_base z m i) e)
          ∙ sym (row_plain m columns r i li) ∙ ap (λ z. row_terms z m columns r i) (sym e)

module _ (mixed : Bool) (m : ℕ) (columns : List ℕ) (r : ℕ) where
  row-most : (i : ℕ) → length (row_terms mixed m columns r i) ≤ m
  unfolding row_terms
  row-most i = omega (arith, each-most m 1 (λ j. only (picks mixed m columns r i j) (pair_wire mixed m i j)) (λ j. only-most (picks mixed m columns r i j) (pair_wire mixed m i j)), mul-one m)

  pub rows_none : rows_to mixed m columns r 0 ≡ []
  unfolding rows_to each
  rows_none = refl

  pub rows_more : (i : ℕ) → rows_to mixed m columns r (i + 1) ≡ rows_to mixed m columns r i ++ row_terms mixed m columns r i
  unfolding rows_to each
  rows_more i = rw add-one

  pub rows-most : (i : ℕ) → length (rows_to mixed m columns r i) ≤ i * m
  unfolding rows_to
  rows-most i = each-most i m (row_terms mixed m columns r) row-most

-- the most that are folded for r
last_most : (o : Option ℕ) → length (option_to_list o) ≤ 1
last_most None = omega arith
last_most (Some w) = omega arith

pub terms-most : (t : Terms) (m : ℕ) (columns : List ℕ) (r : ℕ) → length (fold_terms t m columns r) ≤ m * m + 1 + 1
unfolding fold_terms square_term
terms-most t m columns r = rw (length-append, length-append) (omega (
  arith,
  only-most t.mixed (and_wire m (minus m r 1) (minus m r 1)),
  rows-most t.mixed m columns r m,
  last_most t.last,
))

-- the terms by the table
pub terms-same : (t : Terms) {m : ℕ} {table columns : List ℕ} → Columns t.rows m table m columns → (r : ℕ) → r < m → fold_terms t m columns r ≡ table_terms t m table r
unfolding fold_terms table_terms rows_to row_terms pairs picks
terms-same t {m} c r l =
    ap (λ z. square_term t.mixed m r ++ z ++ option_to_list t.last)
    (each-ext m (λ i li. each-ext m (λ j lj. ap (λ x. only (in_order t.mixed i j && eqb x 1) (pair_wire t.mixed m i j))
    (c.kept (minus m r i) (minus m j i) (minus-lt m r i (omega arith)) (minus-lt m j i (omega arith)) (minus-lt m j i (omega arith))))))
