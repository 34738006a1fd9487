-- Stores of several elements in a row: one more, two after one another, from the front.
use mathlib.Core.Path.{◌≡◌, sym, ap, ◌∙◌}
use mathlib.Core.List.{List, [], ◌∷◌, ◌++◌}
use Prim.Native.Nat.{ℕ, suc, ◌+◌, ◌≤◌}
use native.Mathlib.Nat.{add-zero, zero-add}
use native.Mathlib.Numerals.{add-one}
use native.Mathlib.Omega.{arith}
use lib.ListN.{length, set, drop}
use lib.Seq.{sets, sets-eq}
use Rattle.gf2.specs.Coordinates.{tabulate}
use Rattle.gf2.proofs.Coordinates.{length-tabulate}

pub sets-append : (l : List ℕ) (i : ℕ) (vs ws : List ℕ) → sets l i (vs ++ ws) ≡ sets (sets l i vs) (i + length vs) ws
sets-append l i [] ws = rw add-zero
sets-append l i (v ∷ vs) ws =
    let e : suc i + length vs ≡ i + length (v ∷ vs) = omega arith in
    sets-append (set l i v) (suc i) vs ws ∙ ap (λ k. sets (sets (set l i v) (suc i) vs) k ws) e

-- one element more
pub sets-snoc : (l : List ℕ) (i n : ℕ) (vs : List ℕ) (v : ℕ) → length vs ≡ n → set (sets l i vs) (i + n) v ≡ sets l i (vs ++ (v ∷ []))
sets-snoc l i n vs v e = ap (λ k. set (sets l i vs) (i + k) v) (sym e) ∙ sym (sets-append l i vs (v ∷ []))

pub sets-whole : (l vs : List ℕ) → length vs ≤ length l → sets l 0 vs ≡ vs ++ drop (length vs) l
sets-whole l vs h = sets-eq vs l 0 (omega arith) ∙ rw zero-add

-- the invariant of a loop that stores f 0, f 1, .. from place i on
pub stored_more : (l : List ℕ) (i n : ℕ) (f : ℕ → ℕ) (x : ℕ) → x ≡ f n → set (sets l i (tabulate n f)) (i + n) x ≡ sets l i (tabulate (n + 1) f)
unfolding tabulate
stored_more l i n f x e = ap (set (sets l i (tabulate n f)) (i + n)) e ∙ sets-snoc l i n (tabulate n f) (f n) (length-tabulate n f) ∙ rw add-one

-- three elements, one after another
pub sets-three : (l l₁ l₂ l₃ : List ℕ) (i x y z : ℕ) → l₁ ≡ set l i x → l₂ ≡ set l₁ (i + 1) y → l₃ ≡ set l₂ (i + 2) z → l₃ ≡ sets l i (x ∷ y ∷ z ∷ [])
sets-three l l₁ l₂ l₃ i x y z e f g =
    let p : i + 1 ≡ suc i = omega arith in
    let q : i + 2 ≡ suc (suc i) = omega arith in
    g ∙ rw (f, e, p, q)
