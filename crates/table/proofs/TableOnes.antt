-- The ones of a table's bytes: table-ones, ones_small.
use mathlib.Core.Path.{◌≡◌, sym, ap, ◌∙◌}
use mathlib.Core.List.{List}
use Prim.Native.Nat.{ℕ, ◌+◌, ◌*◌, ◌/◌, ◌%◌, ◌^◌, ◌<◌, ◌≤◌}
use native.Mathlib.Nat.{mul_assoc, mul_comm, mod-eq_of_lt}
use native.Mathlib.Omega.{arith}
use lib.ListN.{length, drop}
use lib.Seq.{get_or-take, get_or-drop}
use Rattle.gf2.specs.Sums.{sum}
use Rattle.gf2.specs.Coordinates.{coord}
use Rattle.gf2.specs.Operands.{max_width, bytes_for}
use Rattle.gf2.specs.Tables.{row, IsTable, ones_in}
use Rattle.gf2.proofs.Sums.{sum-ext, sum-most, sum-clear, sum-digits}
use Rattle.gf2.proofs.Coordinates.{coord-lt, coord-digit}
use Rattle.judging.proofs.Passed.{size_small}

row-coord : (m : ℕ) (t : List ℕ) (d i : ℕ) → i < bytes_for m * 8 → coord t (d * (bytes_for m * 8) + i) ≡ coord (row m t d) i
unfolding row
row-coord m t d i l =
    let place : d * bytes_for m * 8 + i ≡ (d * bytes_for m + i / 8) * 8 + i % 8 = omega arith in
    let digits : i / 8 * 8 + i % 8 ≡ i = omega arith in
    ap (λ n. coord t (n + i)) (sym (mul_assoc d (bytes_for m) 8)) ∙ ap (coord t) place ∙ coord-digit t _ (i % 8) (omega arith)
    ∙ ap (λ y. y / 2 ^ (i % 8) % 2) (sym (get_or-take {A = ℕ} (bytes_for m) (drop (d * bytes_for m) t) (i / 8) 0 (omega arith) ∙ get_or-drop (d * bytes_for m) t (i / 8) 0))
    ∙ sym (coord-digit (row m t d) (i / 8) (i % 8) (omega arith)) ∙ ap (coord (row m t d)) digits

-- the ones of all bytes are those of all rows
pub table-ones : (m : ℕ) (t : List ℕ) → IsTable m t → sum (8 * length t) (coord t) ≡ ones_in m t
unfolding ones_in
table-ones m t is =
    ap (λ n. sum n (coord t)) (mul_comm 8 (length t) ∙ ap (λ n. n * 8) is.size ∙ mul_assoc m (bytes_for m) 8) ∙ sum-digits m (bytes_for m * 8) (coord t)
    ∙ sum-ext m _ _ (λ d l. sum-ext (bytes_for m * 8) _ _ (λ i h. row-coord m t d i h)
    ∙ sum-clear m (bytes_for m * 8) (coord (row m t d)) (omega arith) (is.rows d l).clear)

-- and have room
pub ones_small : (m : ℕ) (t : List ℕ) → m ≤ max_width → IsTable m t → sum (8 * length t) (coord t) % 2 ^ 64 ≡ ones_in m t
ones_small m t w is =
    let few = size_small m w in
    mod-eq_of_lt (omega (arith, sum-most (8 * length t) 1 (coord t) (λ i. omega (arith, coord-lt t i)), is.size)) ∙ table-ones m t is
