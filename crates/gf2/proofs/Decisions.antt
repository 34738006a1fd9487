-- The tests of the definitions decide: each is true exactly when the proposition that it stands for holds.
-- Numbers: less, equal. Widths. Bytes that are the same. Bits at the width and above, of an operand and of a table's rows.
use mathlib.Core.Path.{◌≡◌, refl, sym, ap₂, ◌∙◌}
use mathlib.Core.Logic.{◌↔◌}
use mathlib.Core.Bool.{Bool, true, false, not, ◌&&◌, ◌||◌, true≢false}
use mathlib.Core.List.{List, [], ◌∷◌}
use Prim.Native.Nat.{ℕ, ◌*◌, ◌<◌, ◌≤◌}
use native.Mathlib.Omega.{arith}
use native.Mathlib.Decide.{ℕ_discrete}
use lib.Dec.{leb, ltb, eqb}
use lib.ListN.{length}
use borrow.Author.Tests.{ltb-true, ltb-false, lt-ltb, leb-true, le-leb, eqb-true, eqb-false, eq-eqb}
use Rattle.gf2.specs.Sums.{every}
use Rattle.gf2.specs.Coordinates.{coord}
use Rattle.gf2.specs.Operands.{max_width, HasHighBit, is_clear, same}
use Rattle.gf2.specs.Tables.{row}
use Rattle.gf2.proofs.Sums.{every-at, every-fails}
use Rattle.gf2.proofs.Coordinates.{coord-lt}
use Rattle.gf2.proofs.Operands.{clear_at}
use Rattle.gf2.proofs.Parity.{and_both, bool-ext}

-- a test that is false exactly when P holds
pub unless : (b : Bool) {P : Type 0} → (b ≡ true → ¬ P) → (b ≡ false → P) → (not b ≡ true) ↔ P
unless true n h = (λ e. absurd (true≢false (sym e)), λ p. absurd (n refl p))
unless false n h = (λ e. h refl, λ p. refl)

module _ (a b : ℕ) where
  pub less-decides : (ltb a b ≡ true) ↔ (a < b)
  less-decides = (ltb-true a b, lt-ltb a b)

  pub equal-decides : (eqb a b ≡ true) ↔ (a ≡ b)
  equal-decides = (eqb-true a b, eq-eqb a b)

  pub other-decides : (not (eqb a b) ≡ true) ↔ (¬ (a ≡ b))
  other-decides = unless (eqb a b) (λ e n. n (eqb-true a b e)) (eqb-false a b)

  -- two numbers that can't differ are equal
  pub equal-unless : ¬ ¬ (a ≡ b) → a ≡ b
  equal-unless n = elim (ℕ_discrete a b) [
    | yes e ↦ e
    | no d ↦ absurd (n d)
  ]

pub width-decides : (m : ℕ) → (not (leb 2 m && leb m max_width) ≡ true) ↔ (¬ ((2 ≤ m) × (m ≤ max_width)))
width-decides m = unless (leb 2 m && leb m max_width)
    (λ e n. let q = and_both (leb 2 m) (leb m max_width) e in n (leb-true 2 m q.0, leb-true m max_width q.1))
    (λ e h. true≢false (sym (rw (le-leb 2 m h.0, le-leb m max_width h.1)) ∙ e))

same-eq : (a b : List ℕ) → same a b ≡ true → a ≡ b
unfolding same
same-eq [] [] e = refl
same-eq [] (y ∷ b) e = absurd (true≢false (sym e))
same-eq (x ∷ a) [] e = absurd (true≢false (sym e))
same-eq (x ∷ a) (y ∷ b) e = let h = and_both (eqb x y) (same a b) e in ap₂ ◌∷◌ (eqb-true x y h.0) (same-eq a b h.1)

same_self : (a : List ℕ) → same a a ≡ true
unfolding same
same_self [] = refl
same_self (x ∷ a) = rw (eq-eqb x x refl, same_self a)

module _ (a b : List ℕ) where
  pub same-decides : (same a b ≡ true) ↔ (a ≡ b)
  same-decides = (same-eq a b, λ e. rw e (same_self b))

  pub unlike-decides : (not (same a b) ≡ true) ↔ (¬ (a ≡ b))
  unlike-decides = unless (same a b) (λ e n. n (same-decides.0 e)) (λ e q. true≢false (sym (same-decides.1 q) ∙ e))

-- two tests that decide the same
pub same-both : (a b c d : List ℕ) → (a ≡ b → c ≡ d) → (c ≡ d → a ≡ b) → same a b ≡ same c d
same-both a b c d f g =
    bool-ext _ _ (λ e. (same-decides c d).1 (f ((same-decides a b).0 e))) (λ e. (same-decides a b).1 (g ((same-decides c d).0 e)))

not-clear : (m : ℕ) (x : List ℕ) → is_clear m x ≡ false → HasHighBit m x
unfolding is_clear
not-clear m x e =
    let w = every-fails (8 * length x) (λ i. ltb i m || eqb (coord x i) 0) e in
    let q = or-false (ltb w.0 m) (eqb (coord x w.0) 0) w.2 in
    let n = eqb-false (coord x w.0) 0 q.1 in
    (w.0, ltb-false w.0 m q.0, omega (arith, n, coord-lt x w.0))
  where
    or-false : (a b : Bool) → (a || b) ≡ false → (a ≡ false) × (b ≡ false)
    or-false true b e = absurd (true≢false e)
    or-false false b e = (refl, e)

clear-low : (m : ℕ) (x : List ℕ) → is_clear m x ≡ true → ¬ HasHighBit m x
clear-low m x e w = absurd (let z = sym w.2 ∙ clear_at m x e w.0 w.1 in omega arith)

pub high-decides : (m : ℕ) (x : List ℕ) → (not (is_clear m x) ≡ true) ↔ HasHighBit m x
high-decides m x = unless (is_clear m x) (clear-low m x) (not-clear m x)

pub rows-decide : (m : ℕ) (t : List ℕ)
    → (not (every m (λ d. is_clear m (row m t d))) ≡ true) ↔ ((d : ℕ) × (d < m) × HasHighBit m (row m t d))
rows-decide m t = unless (every m (λ d. is_clear m (row m t d)))
    (λ e w. clear-low m (row m t w.0) (every-at m (λ d. is_clear m (row m t d)) e w.0 w.1) w.2)
    (λ e. let w = every-fails m (λ d. is_clear m (row m t d)) e in (w.0, w.1, not-clear m (row m t w.0) w.2))
