-- The three lists of a table under rules 4 and 5: every wire is there, each gives the product, and their numbers of gates.
-- Pairs: which pairs have a coordinate, and which are all ones. Sizes: the number of terms of each fold.
-- Plain, Reduced, Sharing: of each list Sound (every wire is there), its output values, its gates by kind.
use mathlib.Core.Path.{◌≡◌, refl, sym, ap, ap₂, ◌∙◌}
use mathlib.Core.Bool.{Bool, true, false, not, ◌&&◌}
use mathlib.Core.List.{List, [], ◌∷◌, ◌++◌}
use Prim.Native.Nat.{ℕ, zero, suc, ◌+◌, ◌-◌, ◌*◌, ◌/◌, ◌%◌, ◌<◌, ◌≤◌}
use native.Mathlib.Nat.{mul_comm, mul-one, mul-pos, mul-sub, mul-add, add-mul}
use native.Mathlib.Decide.{dec_lt}
use native.Mathlib.Omega.{arith}
use lib.ListN.{length, get_or, length-append}
use lib.Dec.{ltb}
use borrow.Author.Tests.{eqb-true, eq-eqb}
use Rattle.gf2.specs.Sums.{sum}
use Rattle.gf2.specs.Coordinates.{coord}
use Rattle.gf2.specs.Operands.{minus}
use Rattle.gf2.specs.Tables.{IsTable, row, pair_product, ones_in}
use Rattle.gf2.specs.Products.{product, reduced as reduced_product}
use Rattle.gf2.specs.Check.{Symmetric}
use Rattle.gf2.specs.Statements.{CountsPairs, pairs_with, pairs_below}
use Rattle.gf2.proofs.Sums.{sum-ext, sum-plus, sum-next, sum-cong, every-at, every_of}
use Rattle.gf2.proofs.Parity.{bool-ext, and_both}
use Rattle.gf2.proofs.Coordinates.{coord-lt}
use Rattle.gf2.proofs.Operands.{coord-from, coord-turned, minus-lt, minus-below, minus-round, sum-shift}
use Rattle.gf2.proofs.OperandVectors.{bytes_fit}
use Rattle.gf2.proofs.Theorems.{theorem_d, theorem_e}
use Rattle.netlist.specs.Gates.{Gate, XOR, Netlist, and_gates, xor_gates}
use Rattle.netlist.specs.Lists.{pairs, before, and_wire, ands, fold, folded, has, plain_terms, plain, mixes, mix_wire, reduced_terms, reduced, all_ones, full_rows, is_shared, shared_terms, shared_wire, other_terms, sharing, if_none, common}
use Rattle.netlist.specs.Running.{value_on, wires}
use Rattle.netlist.specs.Counts.{plain_xors, reduced_xors, common_xors}
use Rattle.gf2.proofs.Counts.{num, num-and, num-bit, sum-const, sum-triangle, sum_below, sum_mono}
use Rattle.netlist.proofs.FoldLaws.{Below, Earlier, OnWires, AllAnd, AllXor, total, total-append, total-cons, total-one, total-pairs, length_pairs, length-fold, all_append, all_cons, all_one, all-pairs, below-mono, end_below, earlier-append, earlier-fold, earlier-pairs, holds-append, holds-pairs, fold-value, and-append, xor-append, and-pairs, xor-pairs, xor-fold}
use Rattle.netlist.proofs.NetlistLaws.{folded-value, folded_start, folded-length, folded-ands, folded-xors, folded-earlier, outputs-below, length-outputs, length-ands, and_below, earlier-ands, wires-hold, and-value, picked_value}

-- a list of which every gate's wires are earlier, and every output wire is there
pub record Sound (m : ℕ) (list : Netlist) : Type 0 where
  pub earlier : Earlier (2 * m) list.gates
  pub present : Below (2 * m + length list.gates) list.outputs
  pub size : length list.outputs ≡ m

-- the numbers of a list's gates
pub record Gates (list : Netlist) (a x : ℕ) : Type 0 where
  pub ands : and_gates list.gates ≡ a
  pub xors : xor_gates list.gates ≡ x
  pub all : length list.gates ≡ a + x

-- the coordinate to which s is turned
turned-place : (m i s : ℕ) → i < m → s < m → (r : ℕ) × (r < m) × (minus m r i ≡ s)
turned-place m i s li ls = elim (dec_lt (s + i) m) [
  | yes h ↦ (s + i, h, minus-below m (s + i) i (omega arith) h ∙ omega arith)
  | no h ↦ (s + i - m, omega arith, minus-round m (s + i - m) i (omega arith) li ∙ omega arith)
]

module _ (m : ℕ) (table : List ℕ) where
  -- Pairs
  pub has-num : (r i j : ℕ) → num (has m table r i j) ≡ coord (pair_product m table i j) r
  has-num r i j = num-bit _ (coord-lt (pair_product m table i j) r)

  has-pairs : (r : ℕ) → sum m (λ i. sum m (λ j. num (has m table r i j))) ≡ pairs_with m table r
  unfolding pairs_with
  has-pairs r = sum-ext m _ _ (λ i li. sum-ext m _ _ (λ j lj. has-num r i j))

  below-num : (r i j : ℕ) → num (ltb i j && has m table r i j) ≡ num (ltb i j) * coord (pair_product m table i j) r
  below-num r i j = num-and (ltb i j) (has m table r i j) ∙ ap (λ x. num (ltb i j) * x) (has-num r i j)

  below-pairs-number : (r : ℕ) → sum m (λ i. sum m (λ j. num (ltb i j && has m table r i j))) ≡ pairs_below m table r
  unfolding pairs_below
  below-pairs-number r = sum-ext m _ _ (λ i li. sum-ext m _ _ (λ j lj. below-num r i j)) ∙ sym (sum-triangle m (λ i j. coord (pair_product m table i j) r))

  pub ones-at : (bytes : List ℕ) → all_ones m bytes ≡ true → (r : ℕ) → r < m → coord bytes r ≡ 1
  unfolding all_ones
  ones-at bytes e r l = eqb-true _ _ (every-at m _ e r l)

  pub ones-of : (bytes : List ℕ) → ((r : ℕ) → r < m → coord bytes r ≡ 1) → all_ones m bytes ≡ true
  unfolding all_ones
  ones-of bytes h = every_of m _ (λ r l. eq-eqb _ _ (h r l))

  module _ (is : IsTable m table) where
    pub pair-coord : (i j r : ℕ) → r < m → coord (pair_product m table i j) r ≡ coord (row m table (minus m j i)) (minus m r i)
    unfolding pair_product
    pair-coord i j r l = coord-turned _ (is.rows (minus m j i) (minus-lt m j i (omega arith))).size (bytes_fit m) i r l

    pub shared-row : (i j : ℕ) → i < m → is_shared m table i j ≡ all_ones m (row m table (minus m j i))
    shared-row i j li = bool-ext _ _
        (λ e. ones-of _ (λ s ls. let k = turned-place m i s li ls in
        ap (coord (row m table (minus m j i))) (sym k.2) ∙ sym (pair-coord i j k.0 k.1) ∙ ones-at _ e k.0 k.1))
        (λ e. ones-of _ (λ r lr. pair-coord i j r lr ∙ ones-at _ e (minus m r i) (minus-lt m r i (omega arith))))

    pub shared-number : sum m (λ i. sum m (λ j. num (is_shared m table i j))) ≡ m * full_rows m table
    unfolding full_rows
    shared-number = sum-ext m _ (λ i. full_rows m table) (λ i li.
        sum-ext m _ _ (λ j lj. ap num (shared-row i j li)) ∙ sum-shift m i (λ d. num (all_ones m (row m table d))) li)
        ∙ sum-const m _

    -- a pair that has r is one of the others or shared
    split : (r i j : ℕ) → r < m → num (has m table r i j && not (is_shared m table i j)) + num (is_shared m table i j) ≡ num (has m table r i j)
    split r i j l = go (has m table r i j) (is_shared m table i j) (λ e. eq-eqb _ _ (ones-at (pair_product m table i j) e r l))
      where
        go : (x y : Bool) → (y ≡ true → x ≡ true) → num (x && not y) + num y ≡ num x
        go true true h = refl
        go true false h = refl
        go false true h = ap num (sym (h refl))
        go false false h = refl

  -- what a sum over all pairs is to be: coordinate r of the product
  unfoldable pub products : List ℕ → List ℕ → ℕ → ℕ
  products a b r = sum m (λ i. sum m (λ j. coord a i * coord b j * coord (pair_product m table i j) r))

  pub coord-product : (a b : List ℕ) → m ≤ 8 * length a → (r : ℕ) → r < m → coord (product m table a b) r ≡ products a b r % 2
  unfolding product products
  coord-product a b fits r l = coord-from (length a) m _ fits r l

  -- every list: its outputs have the product's coordinates, modulo 2
  abbrev pub Gives : Netlist → Type 0
  Gives list = (a b : List ℕ) → m ≤ 8 * length a → (r : ℕ) → r < m → value_on (wires m list a b) (get_or list.outputs r 0) % 2 ≡ products a b r % 2

  -- Sizes
  ands-gates : AllAnd (ands m)
  unfolding ands
  ands-gates = and-pairs m (λ i j. true) (λ i j. i) (λ i j. m + j)

  below-ands : (test : ℕ → ℕ → Bool) → Below (2 * m + m * m) (pairs m test (and_wire m))
  below-ands test = all-pairs _ m test (and_wire m) (λ i j li lj e. omega (arith, and_below m i j li lj))

  -- the sum over the pairs having r
  pub wanted-products : (a b : List ℕ) (r : ℕ) → sum m (λ i. sum m (λ j. coord (pair_product m table i j) r * (coord a i * coord b j))) ≡ products a b r
  unfolding products
  wanted-products a b r = sum-ext m _ _ (λ i li. sum-ext m _ _ (λ j lj. mul_comm (coord (pair_product m table i j) r) (coord a i * coord b j)))

  has-products : (a b : List ℕ) (r : ℕ) → sum m (λ i. sum m (λ j. num (has m table r i j) * (coord a i * coord b j))) ≡ products a b r
  has-products a b r = sum-ext m _ _ (λ i li. sum-ext m _ _ (λ j lj. ap (λ x. x * (coord a i * coord b j)) (has-num r i j))) ∙ wanted-products a b r

  module _ (two : 2 ≤ m) (is : IsTable m table) (s : Symmetric m table) where
    counted : CountsPairs m table
    counted = theorem_e m table two is

    length-plain : (r : ℕ) → r < m → length (plain_terms m table r) ≡ ones_in m table
    unfolding plain_terms
    length-plain r l = length_pairs m (has m table r) (and_wire m) ∙ has-pairs r ∙ counted.all r l

    length-reduced : (r : ℕ) → r < m → length (reduced_terms m table r) ≡ suc (pairs_below m table r)
    unfolding reduced_terms
    length-reduced r l = ap suc (length_pairs m (λ i j. ltb i j && has m table r i j) (mix_wire m) ∙ below-pairs-number r)

    pub ones_half : (r : ℕ) → r < m → ones_in m table ≡ 1 + 2 * pairs_below m table r
    ones_half r l = counted.total s r l

    pub ones-positive : 0 < ones_in m table
    ones-positive = omega (arith, ones_half 0 (omega arith))

    -- Plain
    pub plain-sound : Sound m (plain m table)
    unfolding plain
    plain-sound = record {
      earlier = folded-earlier m (ands m) (plain_terms m table) (earlier-ands m) below;
      present = outputs-below m (ands m) (plain_terms m table) (earlier-ands m) below (omega arith);
      size = length-outputs m (ands m) (plain_terms m table);
    }
      where
        below : (r : ℕ) → r < m → Below (2 * m + length (ands m)) (plain_terms m table r)
        below r l = rw (length-ands m) (unfold plain_terms in below-ands (has m table r))

    pub plain-gives : Gives (plain m table)
    plain-gives a b fits r l = unfold plain in
        folded-value m (ands m) (plain_terms m table) _ hold r l (rw (length-plain r l) ones-positive)
        ∙ ap (λ x. x % 2) (unfold plain_terms in (picked_value m a b (plain m table) (folded_start m (ands m) (plain_terms m table) _ hold) (has m table r) ∙ has-products a b r))
      where
        hold : OnWires (value_on (wires m (plain m table) a b)) (2 * m) (folded m (ands m) (plain_terms m table)).gates
        hold = unfold plain in wires-hold m a b (plain m table) plain-sound.earlier

    pub plain-gates : Gates (plain m table) (m * m) (plain_xors m (ones_in m table))
    unfolding plain
    plain-gates = record {
      ands = folded-ands m (ands m) (plain_terms m table) ∙ ands-gates.ands ∙ length-ands m;
      xors = folded-xors m (ands m) (plain_terms m table) ∙ omega (arith, ands-gates.xors, folds);
      all = folded-length m (ands m) (plain_terms m table) ∙ omega (arith, length-ands m, folds);
    }
      where
        folds : sum m (λ r. length (plain_terms m table r) - 1) ≡ plain_xors m (ones_in m table)
        folds = sum-ext m _ _ (λ r l. ap (λ k. k - 1) (length-plain r l)) ∙ sum-const m _

    -- Reduced
    length-mixes : length (mixes m) ≡ sum m (λ i. sum m (λ j. num (ltb i j)))
    unfolding mixes
    length-mixes = length_pairs m ltb (λ i j. XOR (and_wire m i j) (and_wire m j i))

    pub twice-mixes : 2 * length (mixes m) + m ≡ m * m
    twice-mixes = rw length-mixes (sum_below m)

    mixes-gates : AllXor (mixes m)
    unfolding mixes
    mixes-gates = xor-pairs m ltb (and_wire m) (λ i j. and_wire m j i)

    earlier-mixes : Earlier (2 * m + m * m) (mixes m)
    unfolding mixes
    earlier-mixes = earlier-pairs (2 * m + m * m) m ltb _ (λ i j li lj. (omega (arith, and_below m i j li lj), omega (arith, and_below m j i lj li)))

    abbrev mixed : List Gate
    mixed = ands m ++ mixes m

    length-mixed : length mixed ≡ m * m + length (mixes m)
    length-mixed = length-append (ands m) (mixes m) ∙ ap (λ k. k + length (mixes m)) (length-ands m)

    earlier-mixed : Earlier (2 * m) mixed
    earlier-mixed = earlier-append (2 * m) (ands m) (mixes m) (earlier-ands m) (rw (length-ands m) earlier-mixes)

    -- the XOR of a pair i < j is one of them
    mix-below : (i j : ℕ) → i < m → j < m → ltb i j ≡ true → before m ltb i j < length (mixes m)
    unfolding before
    mix-below i j li lj e = omega (
      arith,
      length-mixes,
      sum_mono (λ k. sum m (λ l. num (ltb k l))) (suc i) m li,
      sum-next (λ k. sum m (λ l. num (ltb k l))) i,
      sum_mono (λ l. num (ltb i l)) (suc j) m lj,
      sum-next (λ l. num (ltb i l)) j,
      ap num e,
    )

    reduced-below : (r : ℕ) → r < m → Below (2 * m + length mixed) (reduced_terms m table r)
    unfolding reduced_terms
    reduced-below r l = rw length-mixed (all_cons _ _ _
        (omega (arith, and_below m (minus m r 1) (minus m r 1) (minus-lt m r 1 (omega arith)) (minus-lt m r 1 (omega arith))))
        (all-pairs _ m _ (mix_wire m) (λ i j li lj e. omega (arith, mix-below i j li lj (and_both (ltb i j) _ e).0))))

    pub reduced-sound : Sound m (reduced m table)
    unfolding reduced
    reduced-sound = record {
      earlier = folded-earlier m mixed (reduced_terms m table) earlier-mixed reduced-below;
      present = outputs-below m mixed (reduced_terms m table) earlier-mixed reduced-below (omega arith);
      size = length-outputs m mixed (reduced_terms m table);
    }

    pub reduced-gates : Gates (reduced m table) (m * m) (reduced_xors m (ones_in m table))
    unfolding reduced
    reduced-gates = record {
      ands = folded-ands m mixed (reduced_terms m table) ∙ and-append (ands m) (mixes m) ∙ omega (arith, ands-gates.ands, mixes-gates.ands, length-ands m);
      xors = folded-xors m mixed (reduced_terms m table) ∙ ap (λ k. k + tail) (xor-append (ands m) (mixes m)) ∙ omega (arith, ands-gates.xors, mixes-gates.xors, total-xors);
      all = folded-length m mixed (reduced_terms m table) ∙ omega (arith, length-mixed, total-xors);
    }
      where
        tail : ℕ
        tail = sum m (λ r. length (reduced_terms m table r) - 1)

        half : ℕ
        half = (ones_in m table - 1) / 2

        folds : sum m (λ r. length (reduced_terms m table r) - 1) ≡ m * half
        folds = sum-ext m _ (λ r. half) (λ r l. omega (arith, length-reduced r l, ones_half r l)) ∙ sum-const m half

        shape : ones_in m table + m - 2 ≡ half + half + (m - 1)
        shape = omega (arith, ones_half 0 (omega arith))

        total-xors : length (mixes m) + sum m (λ r. length (reduced_terms m table r) - 1) ≡ reduced_xors m (ones_in m table)
        total-xors = rw shape (omega (arith, folds, mul-add m (half + half) (m - 1), mul-add m half half, mul-sub m m 1, mul-one m, twice-mixes))

    module _ (a b : List ℕ) where
      abbrev v : ℕ → ℕ
      v = value_on (wires m (reduced m table) a b)

      reduced-hold : OnWires v (2 * m) (folded m mixed (reduced_terms m table)).gates
      reduced-hold = unfold reduced in wires-hold m a b (reduced m table) reduced-sound.earlier

      reduced-start : OnWires v (2 * m) (ands m) × OnWires v (2 * m + m * m) (mixes m)
      reduced-start = rw (length-ands m) at (holds-append v (2 * m) (ands m) (mixes m) (folded_start m mixed (reduced_terms m table) v reduced-hold))

      mix-value : (i j : ℕ) → i < m → j < m → ltb i j ≡ true → v (mix_wire m i j) ≡ (coord a i * coord b j + coord a j * coord b i) % 2
      unfolding mixes
      mix-value i j li lj e =
          ap v (omega arith) ∙ holds-pairs v (2 * m + m * m) m ltb (λ i j. XOR (and_wire m i j) (and_wire m j i)) reduced-start.1 i j li lj e
          ∙ ap₂ (λ x y. (x + y) % 2) (and-value m a b (reduced m table) reduced-start.0 i j li lj) (and-value m a b (reduced m table) reduced-start.0 j i lj li)

      mix-term : (r i j : ℕ) → i < m → j < m → num (ltb i j && has m table r i j) * v (mix_wire m i j) % 2
          ≡ num (ltb i j) * ((coord a i * coord b j + coord a j * coord b i) * coord (pair_product m table i j) r) % 2
      mix-term r i j li lj = go (ltb i j) (has m table r i j) (mix-value i j li lj) ∙ ap (λ x. num (ltb i j) * (y * x) % 2) (has-num r i j)
        where
          y : ℕ
          y = coord a i * coord b j + coord a j * coord b i

          go : (c x : Bool) → (c ≡ true → v (mix_wire m i j) ≡ y % 2) → num (c && x) * v (mix_wire m i j) % 2 ≡ num c * (y * num x) % 2
          go true true h = omega (arith, h refl, mul-one y)
          go true false h = omega arith
          go false x h = omega arith

      reduced-total : (r : ℕ) → r < m → total v (reduced_terms m table r) % 2
          ≡ (coord a (minus m r 1) * coord b (minus m r 1) + sum m (λ j. sum j (λ i. (coord a i * coord b j + coord a j * coord b i) * coord (pair_product m table i j) r))) % 2
      reduced-total r l = unfold reduced_terms in
          ap (λ x. x % 2) (total-cons v _ _ ∙ ap (λ x. x + total v (pairs m (λ i j. ltb i j && has m table r i j) (mix_wire m)))
          (and-value m a b (reduced m table) reduced-start.0 (minus m r 1) (minus m r 1) (minus-lt m r 1 (omega arith)) (minus-lt m r 1 (omega arith))))
          ∙ plus (coord a (minus m r 1) * coord b (minus m r 1)) _ _
          (ap (λ x. x % 2) (total-pairs v m _ (mix_wire m)) ∙ sum-cong m _ _ (λ i li. sum-cong m _ _ (λ j lj. mix-term r i j li lj))
          ∙ ap (λ x. x % 2) (sym (sum-triangle m (λ i j. (coord a i * coord b j + coord a j * coord b i) * coord (pair_product m table i j) r))))
        where
          plus : (x y z : ℕ) → y % 2 ≡ z % 2 → (x + y) % 2 ≡ (x + z) % 2
          plus x y z e = omega arith

    pub reduced-gives : Gives (reduced m table)
    unfolding reduced reduced_product
    reduced-gives a b fits r l =
        folded-value m mixed (reduced_terms m table) _ (reduced-hold a b) r l (rw (length-reduced r l) (omega arith))
        ∙ reduced-total a b r l ∙ sym (coord-from (length a) m _ fits r l)
        ∙ ap (λ x. coord x r) (theorem_d m table two is s a b).pairs ∙ coord-product a b fits r l

    -- Sharing
    abbrev shares : List Gate
    shares = fold (2 * m + m * m) (shared_terms m table)

    abbrev begun : List Gate
    begun = ands m ++ shares

    pub length-shared : length (shared_terms m table) ≡ m * full_rows m table
    unfolding shared_terms
    length-shared = length_pairs m (is_shared m table) (and_wire m) ∙ shared-number is

    length-begun : length begun ≡ m * m + (length (shared_terms m table) - 1)
    length-begun = length-append (ands m) shares ∙ ap₂ ◌+◌ (length-ands m) (length-fold _ (shared_terms m table))

    shared-below : Below (2 * m + m * m) (shared_terms m table)
    unfolding shared_terms
    shared-below = below-ands (is_shared m table)

    earlier-begun : Earlier (2 * m) begun
    earlier-begun = earlier-append (2 * m) (ands m) shares (earlier-ands m) (rw (length-ands m) (earlier-fold _ (shared_terms m table) shared-below))

    other-below : (r : ℕ) → r < m → Below (2 * m + length begun) (other_terms m table r)
    unfolding other_terms
    other-below r l = rw length-begun (all_append _ _ _
        (below-mono (2 * m + m * m) _ _ (omega arith) (below-ands (λ i j. has m table r i j && not (is_shared m table i j))))
        (all_one _ _ (omega (arith, end_below (2 * m + m * m) (shared_terms m table) (omega arith) shared-below))))

    pub sharing-sound : Sound m (sharing m table)
    unfolding sharing
    sharing-sound = record {
      earlier = folded-earlier m begun (other_terms m table) earlier-begun other-below;
      present = outputs-below m begun (other_terms m table) earlier-begun other-below (omega arith);
      size = length-outputs m begun (other_terms m table);
    }

    other-number : (r : ℕ) → r < m → sum m (λ i. sum m (λ j. num (has m table r i j && not (is_shared m table i j)))) + m * full_rows m table ≡ ones_in m table
    other-number r l =
        ap (λ k. sum m (λ i. sum m (λ j. num (has m table r i j && not (is_shared m table i j)))) + k) (sym (shared-number is))
        ∙ sym (sum-plus m _ _) ∙ sum-ext m _ _ (λ i li. sym (sum-plus m _ _) ∙ sum-ext m _ _ (λ j lj. split is r i j l))
        ∙ has-pairs r ∙ counted.all r l

    length-other : (r : ℕ) → r < m → length (other_terms m table r) ≡ ones_in m table - m * full_rows m table + 1
    unfolding other_terms
    length-other r l =
        length-append (pairs m (λ i j. has m table r i j && not (is_shared m table i j)) (and_wire m)) (shared_wire m table ∷ [])
        ∙ omega (arith, other-number r l, length_pairs m (λ i j. has m table r i j && not (is_shared m table i j)) (and_wire m))

    pub shared-ones : m * full_rows m table ≤ ones_in m table
    shared-ones = omega (arith, other-number 0 (omega arith))

    pub sharing-gates : Gates (sharing m table) (m * m) (m * (ones_in m table - m * full_rows m table) + (m * full_rows m table - 1))
    unfolding sharing
    sharing-gates = record {
      ands = folded-ands m begun (other_terms m table) ∙ and-append (ands m) shares ∙ omega (arith, ands-gates.ands, shares-gates.ands, length-ands m);
      xors = folded-xors m begun (other_terms m table) ∙ ap (λ k. k + sum m (λ r. length (other_terms m table r) - 1)) (xor-append (ands m) shares)
          ∙ omega (arith, ands-gates.xors, shares-gates.xors, length-fold (2 * m + m * m) (shared_terms m table), length-shared, folds);
      all = folded-length m begun (other_terms m table) ∙ omega (arith, length-begun, length-shared, folds);
    }
      where
        shares-gates : AllXor (fold (2 * m + m * m) (shared_terms m table))
        shares-gates = xor-fold (2 * m + m * m) (shared_terms m table)

        folds : sum m (λ r. length (other_terms m table r) - 1) ≡ m * (ones_in m table - m * full_rows m table)
        folds = sum-ext m _ _ (λ r l. omega (arith, length-other r l)) ∙ sum-const m _

    module _ (some : 0 < full_rows m table) (a b : List ℕ) where
      abbrev u : ℕ → ℕ
      u = value_on (wires m (sharing m table) a b)

      sharing-hold : OnWires u (2 * m) (folded m begun (other_terms m table)).gates
      sharing-hold = unfold sharing in wires-hold m a b (sharing m table) sharing-sound.earlier

      sharing-start : OnWires u (2 * m) (ands m) × OnWires u (2 * m + m * m) shares
      sharing-start = rw (length-ands m) at (holds-append u (2 * m) (ands m) shares (folded_start m begun (other_terms m table) u sharing-hold))

      abbrev over : (ℕ → ℕ → Bool) → ℕ
      over test = sum m (λ i. sum m (λ j. num (test i j) * (coord a i * coord b j)))

      shared_value : u (shared_wire m table) % 2 ≡ over (is_shared m table) % 2
      shared_value =
          fold-value u (2 * m + m * m) (shared_terms m table) (rw length-shared (mul-pos (omega arith) some)) sharing-start.1
          ∙ ap (λ x. x % 2) (unfold shared_terms in picked_value m a b (sharing m table) sharing-start.0 (is_shared m table))

      other-total : (r : ℕ) → total u (other_terms m table r) ≡ over (λ i j. has m table r i j && not (is_shared m table i j)) + u (shared_wire m table)
      unfolding other_terms
      other-total r = total-append u _ _ ∙ ap₂ ◌+◌ (picked_value m a b (sharing m table) sharing-start.0 (λ i j. has m table r i j && not (is_shared m table i j))) (total-one u _)

      both-products : (r : ℕ) → r < m → over (λ i j. has m table r i j && not (is_shared m table i j)) + over (is_shared m table) ≡ products a b r
      both-products r l =
          sym (sum-plus m _ _) ∙ sum-ext m _ _ (λ i li. sym (sum-plus m _ _) ∙ sum-ext m _ _ (λ j lj.
          sym (add-mul (num (has m table r i j && not (is_shared m table i j))) (num (is_shared m table i j)) (coord a i * coord b j))
          ∙ ap (λ x. x * (coord a i * coord b j)) (split is r i j l)))
          ∙ has-products a b r

      sharing-value : (r : ℕ) → r < m → u (get_or (sharing m table).outputs r 0) % 2 ≡ products a b r % 2
      unfolding sharing
      sharing-value r l =
          folded-value m begun (other_terms m table) u sharing-hold r l (rw (length-other r l) (omega arith))
          ∙ omega (arith, other-total r, shared_value, both-products r l)

    pub sharing-gives : 0 < full_rows m table → Gives (sharing m table)
    sharing-gives some a b fits r l = sharing-value some a b r l

    -- Common
    pub by_rows : (P : Netlist → Type 0) → P (plain m table) → (0 < full_rows m table → P (sharing m table)) → P (common m table)
    unfolding common
    by_rows P x y = go (full_rows m table) y
      where
        go : (q : ℕ) → (0 < q → P (sharing m table)) → P (if_none q (plain m table) (sharing m table))
        go zero h = x
        go (suc q) h = h (omega arith)

    pub common-sound : Sound m (common m table)
    common-sound = by_rows (Sound m) plain-sound (λ h. sharing-sound)

    pub common-gives : Gives (common m table)
    common-gives = by_rows Gives plain-gives sharing-gives

    pub common-gates : Gates (common m table) (m * m) (common_xors m (ones_in m table) (full_rows m table))
    unfolding common
    common-gates = go (full_rows m table) refl
      where
        last : (q : ℕ) → 0 < q → m * (ones_in m table - m * q) + (m * q - 1) ≡ m * (ones_in m table - m * q) + m * q - 1
        last q h = omega (arith, mul-pos {m = m} {n = q} (omega arith) h)

        go : (q : ℕ) → full_rows m table ≡ q → Gates (if_none q (plain m table) (sharing m table)) (m * m) (common_xors m (ones_in m table) q)
        go zero e = plain-gates
        go (suc q) e = rw (e, last (suc q) (omega arith)) at sharing-gates
