-- The sum of the rows at the ones of an operand, below the width: the steps of the loops that make it.
-- plus-whole, plus-part: one row more. ones_none, ones_step, ones-within, ones-clear: the ones of a limb, taken off from the lowest on.
-- limbs-none, limbs-more, limb-within, limbs-all: limb after limb of the operand. low-bytes: the sum, carried.
use mathlib.Core.Path.{◌≡◌, sym, ap, ◌∙◌}
use mathlib.Core.List.{List}
use Prim.Native.Nat.{ℕ, ◌+◌, ◌-◌, ◌*◌, ◌/◌, ◌%◌, ◌^◌, ◌<◌, ◌≤◌}
use native.Mathlib.Nat.{zero-mul, zero-div, mod-mod, div-eq_of_lt, lt_of_lt_of_le}
use native.Mathlib.Decide.{dec_lt}
use native.Mathlib.Omega.{arith}
use lib.Dec.{leb}
use lib.ListN.{length, get_or, take, drop, replicate, length-drop}
use lib.Bits.{bit_and}
use lib.Count.{count_trailing_zeros}
use lib.Pow.{pow_mono}
use lib.Seq.{get_or-take, length-take-le}
use borrow.Author.Tests.{le-leb}
use Rattle.gf2.specs.Sums.{sum}
use Rattle.gf2.specs.Coordinates.{coord, pack}
use Rattle.gf2.specs.Operands.{max_width, bytes_for, carried_bytes, choose, below, from_coords}
use Rattle.gf2.specs.Tables.{row}
use Rattle.gf2.proofs.Sums.{sum-ext, sum-none, sum-split, sum-clear}
use Rattle.gf2.proofs.Operands.{below_in, from-ext}
use Rattle.gf2.proofs.TrailingZeros.{lowest-one, lowest-off, lowest-sum}
use Rattle.limbs.specs.Limbs.{carried_limbs, reach, limb_coord, pack_limbs, limbs_of}
use Rattle.limbs.proofs.LimbCoords.{limb-lt, limb-pack, limbs-lt, limb-zero, bytes-from}
use Rattle.limbs.proofs.Reach.{reach-room}
use Rattle.table.specs.Inner.{Below, limb_rows, rows_at}
use Rattle.table.proofs.Comparing.{limb-bit}

-- bytes from a row's start on, as many as the row has or more: below the width they are the row's
part-coord : (m d n : ℕ) (t : List ℕ) (i : ℕ) → bytes_for m ≤ n → i < m → coord (take n (drop (d * bytes_for m) t)) i ≡ coord (row m t d) i
unfolding row coord
part-coord m d n t i h l = ap (λ y. y / 2 ^ (i % 8) % 2)
    (get_or-take {A = ℕ} n (drop (d * bytes_for m) t) (i / 8) 0 (omega arith) ∙ sym (get_or-take {A = ℕ} (bytes_for m) (drop (d * bytes_for m) t) (i / 8) 0 (omega arith)))

abbrev row_part : ℕ → List ℕ → ℕ → List ℕ
row_part m t d = take carried_bytes (drop (d * bytes_for m) t)

module _ {m : ℕ} (g : m ≤ max_width) (t : List ℕ) (d : ℕ) (x : List ℕ) {r : List ℕ} where
  pub plus-whole : r ≡ pack_limbs carried_limbs (λ i. limb_coord x i + coord (row m t d) i) → Below m (λ s. limb_coord x s + coord (row m t d) s) r
  plus-whole e i l = ap (λ y. limb_coord y i) e ∙ limb-pack carried_limbs _ i (omega arith)

  -- read with what follows the row
  pub plus-part : d * bytes_for m + carried_bytes ≤ length t
      → r ≡ pack_limbs carried_limbs (λ i. limb_coord x i + choose (leb carried_bytes (length (row_part m t d))) (below (64 * reach m) (coord (row_part m t d)) i) 0)
      → Below m (λ s. limb_coord x s + coord (row m t d) s) r
  plus-part h e i l =
      let part = row_part m t d in
      let size : length part ≡ carried_bytes = length-take-le carried_bytes (drop (d * bytes_for m) t) (rw length-drop (omega arith)) in
      ap (λ y. limb_coord y i) e ∙ limb-pack carried_limbs _ i (omega arith)
      ∙ ap (λ y. (limb_coord x i + y) % 2) (ap (λ b. choose b (below (64 * reach m) (coord part) i) 0) (le-leb carried_bytes (length part) (omega arith))
      ∙ below_in (64 * reach m) (coord part) i (omega (arith, reach-room m (omega arith))) ∙ part-coord m d carried_bytes t i (omega arith) l)

-- a limb whose bits stand for the rows from `from` on: no row past the last
abbrev pub Within : ℕ → ℕ → ℕ → Type 0
Within m limb from = (b : ℕ) → m ≤ from + b → limb / 2 ^ b % 2 ≡ 0

module _ (m : ℕ) (t : List ℕ) (from : ℕ) where
  -- coordinate s of limbs and of the rows at the ones of a limb
  abbrev pub with_rows : List ℕ → ℕ → ℕ → ℕ
  with_rows x rest s = (limb_coord x s + limb_rows m t rest from s) % 2

  pub ones_none : (x : List ℕ) {rest : ℕ} → rest ≡ 0 → (s : ℕ) → limb_coord x s ≡ with_rows x rest s
  ones_none x {rest} e s = omega (
    arith,
    limb-lt x s,
    sum-none 64 _ (λ b l. ap (λ y. y * coord (row m t (from + b)) s) (ap (λ r. r / 2 ^ b % 2) e ∙ ap (λ y. y % 2) (zero-div (2 ^ b))) ∙ zero-mul _),
  )

  module _ (rest : ℕ) (small : rest < 2 ^ 64) (some : rest ≡ 0 → ⊥) where
    pub ones_step : (x y : List ℕ) → Below m (λ s. limb_coord x s + coord (row m t (from + count_trailing_zeros 64 rest)) s) y
        → (s : ℕ) → s < m → with_rows y (bit_and rest (rest - 1)) s ≡ with_rows x rest s
    ones_step x y e s h = omega (arith, e s h, lowest-sum 64 rest small some (λ b. coord (row m t (from + b)) s))

    pub ones-within : Within m rest from → from + count_trailing_zeros 64 rest < m
    ones-within clear = elim (dec_lt (from + count_trailing_zeros 64 rest) m) [
      | yes l ↦ l
      | no l ↦ absurd (omega (arith, lowest-one 64 rest small some, clear (count_trailing_zeros 64 rest) (omega arith)))
    ]

    pub ones-clear : Within m rest from → Within m (bit_and rest (rest - 1)) from
    ones-clear clear b h = omega (arith, lowest-off 64 rest small some b, clear b h)

-- coordinate s of the rows at the ones of the first n coordinates of an operand
abbrev pub rows_to : ℕ → List ℕ → List ℕ → ℕ → ℕ → ℕ
rows_to m t x n s = sum n (λ k. coord x k * coord (row m t k) s)

module _ (m : ℕ) (t x : List ℕ) where
  pub limbs-none : Below m (rows_to m t x (0 * 64)) (replicate carried_limbs 0)
  unfolding sum
  limbs-none s h = limb-zero carried_limbs s

  pub limbs-more : (w : ℕ) → w < carried_limbs → {limb : ℕ} → limb ≡ get_or (limbs_of x) w 0 → (total next : List ℕ) → Below m (rows_to m t x (w * 64)) total
      → Below m (λ s. limb_coord total s + limb_rows m t limb (w * 64) s) next → Below m (rows_to m t x ((w + 1) * 64)) next
  limbs-more w h q total next done e s l =
      let place : (w + 1) * 64 ≡ w * 64 + 64 = omega arith in
      omega (
        arith,
        done s l,
        e s l,
        sum-ext 64 _ (λ b. coord x (w * 64 + b) * coord (row m t (w * 64 + b)) s) (λ b k. ap (λ y. y * coord (row m t (w * 64 + b)) s) (limb-bit x w b h k q)),
        ap (λ n. rows_to m t x n s) place ∙ sum-split (w * 64) 64 (λ k. coord x k * coord (row m t k) s),
      )

  module _ (clear : (i : ℕ) → m ≤ i → coord x i ≡ 0) where
    pub limb-within : (w : ℕ) → w < carried_limbs → {limb : ℕ} → limb ≡ get_or (limbs_of x) w 0 → Within m limb (w * 64)
    limb-within w h q b l = elim (dec_lt b 64) [
      | yes k ↦ limb-bit x w b h k q ∙ clear (w * 64 + b) l
      | no k ↦ ap (λ y. y % 2) (div-eq_of_lt (lt_of_lt_of_le (rw q (limbs-lt carried_limbs (coord x) w)) (pow_mono {i = 64} {j = b} (omega arith))))
    ]

    pub limbs-all : (w : ℕ) → m ≤ 64 * w → (total : List ℕ) → Below m (rows_to m t x (w * 64)) total → Below m (rows_to m t x m) total
    limbs-all w h total done s l = done s l ∙ ap (λ y. y % 2) (sum-clear m (w * 64) _ (omega arith) (λ k q. ap (λ y. y * coord (row m t k) s) (clear k q) ∙ zero-mul _))

  pub low-bytes : (total : List ℕ) {limbs r : List ℕ} → Below m (rows_to m t x m) total → limbs ≡ pack_limbs carried_limbs (below m (limb_coord total)) → r ≡ pack carried_bytes (limb_coord limbs)
      → r ≡ rows_at m t x
  unfolding rows_at from_coords
  low-bytes total done p q =
      bytes-from (below m (limb_coord total)) q p ∙ from-ext carried_bytes m (limb_coord total) _ (λ i l. ap (λ y. y % 2) (done i l) ∙ mod-mod _ 2)
