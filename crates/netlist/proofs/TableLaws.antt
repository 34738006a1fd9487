-- Laws of the bits of a table: where they lie in its bytes, rows that are all ones, the number of ones; and bounds of products with a width.
use mathlib.Core.Path.{◌≡◌, sym, ap, ◌∙◌}
use mathlib.Core.List.{List}
use Prim.Native.Nat.{ℕ, zero, suc, ◌+◌, ◌*◌, ◌/◌, ◌%◌, ◌^◌, ◌<◌, ◌≤◌}
use native.Mathlib.Nat.{mul-le-mul, mod-eq_of_lt}
use native.Mathlib.Decide.{dec_lt, ℕ_discrete}
use native.Mathlib.Omega.{arith}
use lib.Dec.{eqb}
use lib.ListN.{length}
use lib.Seq.{get_or-take, get_or-drop}
use borrow.Author.Tests.{eqb-true, eq-eqb}
use Rattle.gf2.specs.Sums.{sum}
use Rattle.gf2.specs.Coordinates.{coord}
use Rattle.gf2.specs.Operands.{max_width, bytes_for}
use Rattle.gf2.specs.Tables.{row, ones_in}
use Rattle.gf2.proofs.Sums.{sum-ext, sum-clear, sum-bits, sum-next, every-at, every_of}
use Rattle.gf2.proofs.Parity.{bool-ext}
use Rattle.gf2.proofs.Coordinates.{coord-lt, coord-past}
use Rattle.table.specs.Rows.{Shaped}
use Rattle.table.proofs.Shapes.{row-none}
use Rattle.table.proofs.TableOnes.{ones_small}
use Rattle.netlist.specs.Lists.{all_ones}
use Rattle.netlist.specs.Inner.{Countable}
use Rattle.gf2.proofs.Counts.{sum_ones}

-- a product with a width
pub width-times : (m x k : ℕ) → m ≤ max_width → x ≤ k → m * x ≤ max_width * k
width-times m x k h l = mul-le-mul {n₁ = m} {m₁ = x} {n₂ = max_width} {m₂ = k} h l

-- a product of two numbers that are at most the greatest width
pub width-square : (m k : ℕ) → m ≤ max_width → k ≤ max_width → m * k ≤ max_width * max_width
width-square m k h l = width-times m k max_width h l

-- a product of the width with little more than the ones
pub ones-times : {m ones q : ℕ} (x : ℕ) → Countable m ones q → x ≤ ones + 3 * m → m * x ≤ max_width * (max_width * max_width + 3 * max_width)
ones-times {m} {ones} x c h = width-times m x (max_width * max_width + 3 * max_width) c.greatest (omega (arith, h, c.greatest, c.most, width-square m m c.greatest c.greatest))

-- coordinate s of row d
pub row-coord : (m : ℕ) (table : List ℕ) (d s : ℕ) → s < m → coord (row m table d) s ≡ coord table (8 * (d * bytes_for m) + s)
unfolding coord row
row-coord m table d s l =
    let q : (8 * (d * bytes_for m) + s) / 8 ≡ d * bytes_for m + s / 8 = omega arith in
    let r : (8 * (d * bytes_for m) + s) % 8 ≡ s % 8 = omega arith in
    rw (q, r, get_or-take {A = ℕ} (bytes_for m) _ (s / 8) 0 (omega arith), get_or-drop)

-- bits whose sum is their number are all 1
ones-each : (n : ℕ) (f : ℕ → ℕ) → ((i : ℕ) → f i < 2) → sum n f ≡ n → (i : ℕ) → i < n → f i ≡ 1
ones-each zero f b e i l = absurd (omega arith)
ones-each (suc n) f b e i l =
    let h = sum-bits n f b in
    elim (ℕ_discrete i n) [
      | yes q ↦ rw q (omega (arith, e, sum-next f n, b n, h))
      | no q ↦ ones-each n f b (omega (arith, e, sum-next f n, b n, h)) i (omega arith)
    ]

-- row d has as many ones as the width just where it is all ones
pub full-count : {m : ℕ} {table : List ℕ} (d : ℕ) → Shaped m table → {n : ℕ} → n ≡ sum (8 * length (row m table d)) (coord (row m table d)) % 2 ^ 64 → eqb n m ≡ all_ones m (row m table d)
unfolding all_ones
full-count {m} {table} d s {n} en = bool-ext _ _
    (λ e. every_of m _ (λ i h. eq-eqb _ 1 (ones-each m f (coord-lt (row m table d)) (sym count ∙ eqb-true n m e) i h)))
    (λ e. eq-eqb n m (count ∙ sum-ext m f (λ i. 1) (λ i h. eqb-true _ _ (every-at m _ e i h)) ∙ sum_ones m))
  where
    f : ℕ → ℕ
    f = coord (row m table d)

    all : sum (8 * length (row m table d)) f ≡ sum m f
    all = elim (dec_lt d m) [
      | yes l ↦ sum-clear m _ f (omega (arith, (s.is_table.rows d l).size)) (s.is_table.rows d l).clear
      | no g ↦ sym (sum-clear _ m f (omega (arith, ap length (row-none s d (omega arith)))) (coord-past (row m table d)))
    ]

    count : n ≡ sum m f
    count = en ∙ ap (λ z. z % 2 ^ 64) all ∙ mod-eq_of_lt (omega (arith, sum-bits m f (coord-lt (row m table d)), s.greatest))

-- the ones of all bytes are those of all rows
pub ones-counted : {m : ℕ} {table : List ℕ} → Shaped m table → {n : ℕ} → n ≡ sum (8 * length table) (coord table) % 2 ^ 64 → n ≡ ones_in m table
ones-counted {m} {table} s e = e ∙ ones_small m table s.greatest s.is_table
