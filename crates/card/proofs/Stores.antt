-- Laws of bytes that are stored at a place: two stores in a row, a store at the front, one byte more.
use mathlib.Core.Path.{◌≡◌, ap, ◌∙◌}
use mathlib.Core.List.{List, [], ◌∷◌, ◌++◌}
use Prim.Native.Nat.{ℕ, suc, ◌+◌, ◌<◌, ◌≤◌}
use native.Mathlib.Nat.{add-zero, zero-add}
use native.Mathlib.Numerals.{add-one}
use native.Mathlib.Omega.{arith}
use lib.ListN.{length, get_or, take, drop, set}
use lib.Seq.{sets, sets-eq, take-suc, length-take-le}

pub sets-append : (l : List ℕ) (at : ℕ) (x y : List ℕ) → sets l at (x ++ y) ≡ sets (sets l at x) (at + length x) y
sets-append l at [] y = rw add-zero
sets-append l at (v ∷ x) y =
    sets-append (set l at v) (suc at) x y ∙ (let e : suc at + length x ≡ at + length (v ∷ x) = omega arith in ap (λ k. sets (sets (set l at v) (suc at) x) k y) e)

pub sets-front : (l x : List ℕ) → length x ≤ length l → sets l 0 x ≡ x ++ drop (length x) l
sets-front l x h = sets-eq x l 0 (omega arith) ∙ rw zero-add

pub sets-one : (l row : List ℕ) (at b : ℕ) → b < length row → set (sets l at (take b row)) (at + b) (get_or row b 0) ≡ sets l at (take (b + 1) row)
sets-one l row at b h =
    let e : length (take b row) ≡ b = length-take-le b row (omega arith) in
    rw (add-one, take-suc row b 0 h, sets-append l at (take b row) (get_or row b 0 ∷ []), e)
