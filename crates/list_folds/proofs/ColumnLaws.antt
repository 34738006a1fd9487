-- Laws of the columns: a bit stored, row after row, the next one of a column, and the first ones after limbs.
use Rattle.std.proofs.Common.{min}
use mathlib.Core.Path.{◌≡◌, refl, sym, ap, ap₂, ◌∙◌}
use mathlib.Core.Bool.{true, false}
use mathlib.Core.List.{List}
use Prim.Native.Nat.{ℕ, zero, suc, ◌+◌, ◌-◌, ◌*◌, ◌/◌, ◌%◌, ◌^◌, ◌<◌, ◌≤◌}
use native.Mathlib.Nat.{zero-div, lt_of_le_of_lt, lt_of_lt_of_le, div-eq_of_lt, div-one, zero-add, mod-eq_of_lt}
use native.Mathlib.Decide.{dec_lt, ℕ_discrete}
use native.Mathlib.Omega.{arith}
use lib.ListN.{length, get_or, set, replicate, length-set, length-replicate}
use lib.Seq.{get_or-set_same, get_or-set_other}
use lib.Dec.{eqb}
use lib.Bits.{bit_xor}
use lib.Pow.{shr-shr, shr_le, pow_mono}
use lib.Count.{count_trailing_zeros}
use Rattle.gf2.specs.Coordinates.{coord}
use Rattle.gf2.specs.Operands.{max_width}
use Rattle.gf2.specs.Tables.{row}
use Rattle.gf2.proofs.Coordinates.{xor-bit, shl-bit, shl-bit-out, coord-lt}
use Rattle.gf2.proofs.TrailingZeros.{trailing-low, trailing-one, one_below}
use Rattle.limbs.specs.Limbs.{carried_limbs, limb_coord}
use Rattle.ones.specs.RowLimbs.{next_one, row_limbs}
use Rattle.limbs.proofs.LimbCoords.{limb-digit, limb-zero, limb-pack}
use Rattle.ones.proofs.RowLimbs.{First, next_known, row-limbs}
use Rattle.list_folds.specs.declared.columns.Rows.{Rows}
use Rattle.list_folds.specs.Columns.{bit_from, is_set, Columns, Successor, FirstFrom, Firsts}

-- a bit v at place p, where there was 0
module _ (limbs : List ℕ) (p v : ℕ) (two : v < 2) (inside : p / 64 < length limbs) where
  abbrev with_bit : List ℕ
  with_bit = set limbs (p / 64) (bit_xor (get_or limbs (p / 64) 0) (v * 2 ^ (p % 64) % 2 ^ 64))

  bit-here : limb_coord limbs p ≡ 0 → limb_coord with_bit p ≡ v
  unfolding limb_coord
  bit-here e =
      ap (λ x. x / 2 ^ (p % 64) % 2) (get_or-set_same limbs (p / 64) _ 0 inside)
      ∙ xor-bit (get_or limbs (p / 64) 0) (v * 2 ^ (p % 64) % 2 ^ 64) (p % 64)
      ∙ ap₂ (λ x y. (x + y) % 2) e (shl-bit v 64 (p % 64) (p % 64) (omega arith) (omega arith) ∙ ap (λ k. v / 2 ^ k % 2) none)
      ∙ omega arith
    where
      none : p % 64 - p % 64 ≡ 0
      none = omega arith

  bit-other : (q : ℕ) → (q ≡ p → ⊥) → limb_coord with_bit q ≡ limb_coord limbs q
  unfolding limb_coord
  bit-other q apart = elim (ℕ_discrete (q / 64) (p / 64)) [
    | yes e ↦
        ap (λ k. get_or with_bit k 0 / 2 ^ (q % 64) % 2) e
        ∙ ap (λ x. x / 2 ^ (q % 64) % 2) (get_or-set_same limbs (p / 64) _ 0 inside)
        ∙ xor-bit (get_or limbs (p / 64) 0) (v * 2 ^ (p % 64) % 2 ^ 64) (q % 64)
        ∙ ap (λ y. (get_or limbs (p / 64) 0 / 2 ^ (q % 64) % 2 + y) % 2) (clear (λ s. apart (omega arith)))
        ∙ same (get_or limbs (p / 64) 0 / 2 ^ (q % 64))
        ∙ ap (λ k. get_or limbs k 0 / 2 ^ (q % 64) % 2) (sym e)
    | no n ↦ ap (λ x. x / 2 ^ (q % 64) % 2) (get_or-set_other limbs (p / 64) (q / 64) _ 0 n)
  ]
    where
      same : (x : ℕ) → (x % 2 + 0) % 2 ≡ x % 2
      same x = omega arith

      high : (k : ℕ) → 0 < k → v / 2 ^ k % 2 ≡ 0
      high k h = ap (λ x. x % 2) (div-eq_of_lt (lt_of_lt_of_le two (pow_mono {i = 1} {j = k} h)))

      clear : (q % 64 ≡ p % 64 → ⊥) → v * 2 ^ (p % 64) % 2 ^ 64 / 2 ^ (q % 64) % 2 ≡ 0
      clear n = elim (dec_lt (q % 64) (p % 64)) [
        | yes l ↦ shl-bit-out v 64 (p % 64) (q % 64) l (omega arith)
        | no l ↦ shl-bit v 64 (p % 64) (q % 64) (omega arith) (omega arith) ∙ high (q % 64 - p % 64) (more n l)
      ]
        where
          more : (q % 64 ≡ p % 64 → ⊥) → (q % 64 < p % 64 → ⊥) → 0 < q % 64 - p % 64
          more n l = omega arith

row-bit : (m : ℕ) (table : List ℕ) (d : ℕ) → d < m → m ≤ max_width → (i : ℕ) → i < m → limb_coord (row_limbs m table d) i ≡ coord (row m table d) i
row-bit m table d ld h i l =
    ap (λ y. limb_coord y i) (row-limbs m table d ld h) ∙ limb-pack carried_limbs (coord (row m table d)) i (omega arith) ∙ mod-eq_of_lt (coord-lt (row m table d) i)

-- the first s coordinates of row d, in columns where it was blank
pub record RowTo (m : ℕ) (table : List ℕ) (d s : ℕ) (old columns : List ℕ) : Type 0 where
  pub size : length columns ≡ length old
  pub others : (u e : ℕ) → u < m → e < m → (e ≡ d → ⊥) → bit_from columns (u * carried_limbs) e ≡ bit_from old (u * carried_limbs) e
  pub here : (u : ℕ) → u < m → u < s → bit_from columns (u * carried_limbs) d ≡ coord (row m table d) u
  pub rest : (u : ℕ) → u < m → s ≤ u → bit_from columns (u * carried_limbs) d ≡ bit_from old (u * carried_limbs) d

pub row-none : {m : ℕ} {table : List ℕ} {d : ℕ} {old : List ℕ} → RowTo m table d 0 old old
row-none = record { size = refl; others = λ u e lu le n. refl; here = λ u l h. absurd (omega arith); rest = λ u l h. refl }

module _ {rows : Rows} {m : ℕ} {table : List ℕ} {d : ℕ} {old : List ℕ} (given : (d < m) × Columns rows m table d old) where
  ld : d < m
  ld = given.0

  z : Columns rows m table d old
  z = given.1

  pub row_more : {s v : ℕ} {columns : List ℕ} → s < m → v ≡ coord (row m table d) s → RowTo m table d s old columns →
      RowTo m table d (s + 1) old (set columns (s * carried_limbs + d / 64) (bit_xor (get_or columns (s * carried_limbs + d / 64) 0) (v * 2 ^ (d % 64) % 2 ^ 64)))
  row_more {s} {v} {columns} ls e c = rw (sym place, sym bit) (record {
    size = length-set columns (p / 64) _ ∙ c.size;
    others = λ u f lu lf n. bit-other columns p v two inside (64 * (u * carried_limbs) + f) (λ q. n (omega (arith, z.room.greatest, q))) ∙ c.others u f lu lf n;
    here = λ u lu h. elim (ℕ_discrete u s) [
      | yes q ↦ ap (λ w. bit_from (with_bit columns p v two inside) (w * carried_limbs) d) q ∙ bit-here columns p v two inside (c.rest s ls (omega arith) ∙ z.blank s d ls ld (omega arith)) ∙ e ∙ ap (coord (row m table d)) (sym q)
      | no n ↦ bit-other columns p v two inside (64 * (u * carried_limbs) + d) (λ q. n (omega (arith, q))) ∙ c.here u lu (below u h n)
    ];
    rest = λ u lu h. bit-other columns p v two inside (64 * (u * carried_limbs) + d) (λ q. omega (arith, q)) ∙ c.rest u lu (omega arith);
  })
    where
      p : ℕ
      p = 64 * (s * carried_limbs) + d

      place : p / 64 ≡ s * carried_limbs + d / 64
      place = omega arith

      bit : p % 64 ≡ d % 64
      bit = omega arith

      two : v < 2
      two = omega (arith, e, coord-lt (row m table d) s)

      inside : p / 64 < length columns
      inside = omega (arith, c.size, z.room.room, z.room.greatest)

      below : (u : ℕ) → u < s + 1 → (u ≡ s → ⊥) → u < s
      below u h n = omega arith

  -- the next one of the row: there is none between
  module _ {x : List ℕ} (e : x ≡ row_limbs m table d) where
    pub row_next : {s n : ℕ} {columns : List ℕ} → n ≡ next_one x s → RowTo m table d s old columns → RowTo m table d n old columns × (n < m → 1 ≡ coord (row m table d) n)
    row_next {s} {n} {columns} q c = (
      record {
        size = c.size;
        others = c.others;
        here = λ u lu l. elim (dec_lt u s) [
          | yes b ↦ c.here u lu b
          | no b ↦ c.rest u lu (omega arith) ∙ z.blank u d lu ld (omega arith) ∙ sym (next.zeros u (omega arith) l) ∙ bit-of u lu
        ];
        rest = λ u lu l. c.rest u lu (omega (arith, next.above));
      },
      λ l. one (limb_coord x n) (bit-of n l) (next.is_one (omega (arith, z.room.greatest))),
    )
      where
        bit-of : (i : ℕ) → i < m → limb_coord x i ≡ coord (row m table d) i
        bit-of i l = ap (λ y. limb_coord y i) e ∙ row-bit m table d ld z.room.greatest i l

        next : First (limb_coord x) s (64 * carried_limbs) n
        next = next_known x s q

        one : (y : ℕ) → y ≡ coord (row m table d) n → (y ≡ 0 → ⊥) → 1 ≡ coord (row m table d) n
        one y f g = omega (arith, coord-lt (row m table d) n)

    pub row-after : {s n : ℕ} → n ≡ next_one x s → s ≤ n
    row-after {s} q = (next_known x s q).above

pub columns-none : (rows : Rows) (m : ℕ) (table : List ℕ) → 2 ≤ m → m ≤ max_width → Columns rows m table 0 (replicate (max_width * carried_limbs) 0)
columns-none rows m table two most = record {
  room = record { least = two; greatest = most; room = rw (length-replicate {A = ℕ} (max_width * carried_limbs) 0) (omega arith) };
  kept = λ s d ls ld h. absurd (omega arith);
  blank = λ s d ls ld h. limb-zero (max_width * carried_limbs) (64 * (s * carried_limbs) + d);
}

-- the next one
module _ (columns : List ℕ) (at i : ℕ) where
  abbrev pub left_of : ℕ
  left_of = get_or columns (at + i / 64) 0 / 2 ^ (i % 64)

  left-bit : (j : ℕ) → i % 64 + j < 64 → left_of / 2 ^ j % 2 ≡ bit_from columns at (i + j)
  left-bit j l =
      let e : (at + i / 64) * 64 + (i % 64 + j) ≡ 64 * at + (i + j) = omega arith in
      ap (λ y. y % 2) (shr-shr (get_or columns (at + i / 64) 0) (i % 64) j) ∙ sym (limb-digit columns (at + i / 64) (i % 64 + j) l) ∙ ap (limb_coord columns) e

  unset : (j : ℕ) → i % 64 + j < 64 → left_of / 2 ^ j % 2 ≡ 0 → is_set columns at (i + j) ≡ false
  unset j l e = ap (λ x. eqb x 1) (sym (left-bit j l) ∙ e)

  pub left-none : left_of ≡ 0 → (k : ℕ) → i ≤ k → k < (i / 64 + 1) * 64 → is_set columns at k ≡ false
  left-none z k h l =
      let e : i + (k - i) ≡ k = omega arith in
      ap (is_set columns at) (sym e) ∙ unset (k - i) (omega arith) (ap (λ y. y / 2 ^ (k - i) % 2) z ∙ ap (λ y. y % 2) (zero-div (2 ^ (k - i))))

  module _ (small : get_or columns (at + i / 64) 0 < 2 ^ 64) (some : left_of ≡ 0 → ⊥) where
    abbrev zeros : ℕ
    zeros = count_trailing_zeros 64 left_of

    first_one_lem : left_of / 2 ^ zeros % 2 ≡ 1
    first_one_lem = trailing-one 64 left_of (positive left_of some) (lt_of_le_of_lt (shr_le (get_or columns (at + i / 64) 0) (i % 64)) small)
      where
        positive : (n : ℕ) → (n ≡ 0 → ⊥) → 0 < n
        positive zero n = absurd (n refl)
        positive (suc k) n = omega arith

    zeros-lt : i % 64 + zeros < 64
    zeros-lt = one_below (get_or columns (at + i / 64) 0) 64 (i % 64 + zeros) small (sym (ap (λ y. y % 2) (shr-shr (get_or columns (at + i / 64) 0) (i % 64) zeros)) ∙ first_one_lem)

    one_set : is_set columns at (i + zeros) ≡ true
    one_set = ap (λ x. eqb x 1) (sym (left-bit zeros zeros-lt) ∙ first_one_lem)

    before-one : (k : ℕ) → i ≤ k → k < i + zeros → is_set columns at k ≡ false
    before-one k h l =
        let e : i + (k - i) ≡ k = omega arith in
        ap (is_set columns at) (sym e) ∙ unset (k - i) (omega (arith, zeros-lt)) (trailing-low 64 left_of (k - i) (omega arith))

    pub found-one : {to n : ℕ} → i ≤ to → n ≡ min to (i + zeros) → Successor (is_set columns at) to i n
    found-one {to} {n} h e = record {
      least = omega arith;
      most = omega arith;
      none = λ k b l. before-one k b (omega arith);
      found = λ b. let q : n ≡ i + zeros = omega arith in ap (is_set columns at) q ∙ one_set;
    }

  -- no more ones in this limb, and p the first one after it
  module _ {p : ℕ} (z : left_of ≡ 0) (s : FirstFrom columns (64 * (at + i / 64 + 1)) p) where
    none_before : (k : ℕ) → i ≤ k → k < p - 64 * at → is_set columns at k ≡ false
    none_before k h l = elim (dec_lt k ((i / 64 + 1) * 64)) [
      | yes b ↦ left-none z k h b
      | no b ↦ ap (λ q. eqb (limb_coord columns q) 1) (sym (zero-add (64 * at + k))) ∙ s.none (64 * at + k) (omega arith) (omega arith)
    ]

    pub later-one : {to n : ℕ} → at + carried_limbs ≤ length columns → to ≤ max_width → i ≤ to → n ≡ min to (p - 64 * at) → Successor (is_set columns at) to i n
    later-one {to} {n} room most h e = record {
      least = omega (arith, s.least);
      most = omega arith;
      none = λ k b l. none_before k b (omega arith);
      found = λ b. let place : 64 * at + n ≡ 64 * 0 + p = omega (arith, s.least) in ap (λ q. eqb (limb_coord columns q) 1) place ∙ s.found (omega arith);
    }

-- the first one from limb k on
module _ (columns : List ℕ) (k : ℕ) where
  whole : left_of columns 0 (64 * k) ≡ get_or columns k 0
  whole =
      let e : 0 + 64 * k / 64 ≡ k = omega arith in
      let f : 64 * k % 64 ≡ 0 = omega arith in
      ap₂ (λ x y. get_or columns x 0 / 2 ^ y) e f ∙ div-one (get_or columns k 0)

  pub first-later : {n : ℕ} → get_or columns k 0 ≡ 0 → FirstFrom columns (64 * (k + 1)) n → FirstFrom columns (64 * k) n
  first-later {n} z s = record {
    least = omega (arith, s.least);
    most = s.most;
    none = λ j h l. elim (dec_lt j (64 * (k + 1))) [
      | yes b ↦ left-none columns 0 (64 * k) (whole ∙ z) j h (omega arith)
      | no b ↦ s.none j (omega arith) l
    ];
    found = s.found;
  }

  pub first-here : get_or columns k 0 < 2 ^ 64 → k < length columns → (get_or columns k 0 ≡ 0 → ⊥) → FirstFrom columns (64 * k) (64 * k + count_trailing_zeros 64 (get_or columns k 0))
  first-here small l some = rw whole at (found-one columns 0 (64 * k) small' some' inside least)
    where
      e : 0 + 64 * k / 64 ≡ k
      e = omega arith

      small' : get_or columns (0 + 64 * k / 64) 0 < 2 ^ 64
      small' = rw e small

      some' : left_of columns 0 (64 * k) ≡ 0 → ⊥
      some' q = some (sym whole ∙ q)

      inside : 64 * k ≤ 64 * length columns
      inside = omega arith

      least : 64 * k + count_trailing_zeros 64 (left_of columns 0 (64 * k)) ≡ min (64 * length columns) (64 * k + count_trailing_zeros 64 (left_of columns 0 (64 * k)))
      least = omega (arith, zeros-lt columns 0 (64 * k) small' some')

-- the first one after the limb of a place in a column
pub first-after : {columns firsts : List ℕ} {to : ℕ} (at from : ℕ) → from ≤ to → to ≤ max_width → at + carried_limbs ≤ length columns → Firsts columns 0 firsts →
    FirstFrom columns (64 * (at + from / 64 + 1)) (get_or firsts (at + from / 64) 0)
first-after at from g h room f = f.first (at + from / 64) (omega arith) (omega arith)
