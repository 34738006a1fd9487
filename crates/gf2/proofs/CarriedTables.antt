-- The rules of the check as a test that computes, and the four carried tables, which pass it.
-- shape_test, rules_test: the shape of a table, and rules 4, 5 and, for i = 0, 6; passes-sound: what passes is a table and is accepted.
-- carried-tables: those of widths 2, 3, 4 and 5, so no statement about accepted tables is empty.
use mathlib.Core.Path.{◌≡◌, refl, sym, ap₂}
use mathlib.Core.List.{List, [], ◌∷◌}
use mathlib.Core.Bool.{Bool, true, false, ◌&&◌, true≢false}
use Prim.Native.Nat.{ℕ, zero, suc, ◌-◌, ◌*◌, ◌<◌, ◌≤◌}
use native.Mathlib.Decide.{dec_lt}
use native.Mathlib.Omega.{arith}
use lib.ListN.{length, get_or, get_or-eq_default}
use lib.Dec.{eqb, ltb, lit≤}
use borrow.Author.Tests.{eqb-true, ltb-true}
use Rattle.gf2.specs.Sums.{sum, every}
use Rattle.gf2.specs.Coordinates.{coord, value, tabulate, pack}
use Rattle.gf2.specs.Operands.{bytes_for, minus, IsOperand, is_clear, below, from_coords, turned}
use Rattle.gf2.specs.Tables.{IsTable, row, basis, pair_product}
use Rattle.gf2.specs.Products.{product}
use Rattle.gf2.specs.Check.{Rule5, Rule6, Symmetric, Accepted}
use Rattle.gf2.proofs.Parity.{and_both}
use Rattle.gf2.proofs.Sums.{every-at}
use Rattle.gf2.proofs.Operands.{clear_at}
use Rattle.gf2.proofs.Theorems.{theorem_f}

unfoldable pub same : List ℕ → List ℕ → Bool
same [] [] = true
same [] (y ∷ b) = false
same (x ∷ a) [] = false
same (x ∷ a) (y ∷ b) = eqb x y && same a b

same-eq : (a b : List ℕ) → same a b ≡ true → a ≡ b
unfolding same
same-eq [] [] e = refl
same-eq [] (y ∷ b) e = absurd (true≢false (sym e))
same-eq (x ∷ a) [] e = absurd (true≢false (sym e))
same-eq (x ∷ a) (y ∷ b) e = let h = and_both (eqb x y) (same a b) e in ap₂ ◌∷◌ (eqb-true x y h.0) (same-eq a b h.1)

module _ (m : ℕ) where
  unfoldable pub operand_test : List ℕ → Bool
  operand_test a = eqb (length a) (bytes_for m) && every (length a) (λ b. ltb (get_or a b 0) 256) && is_clear m a

  operand_sound : (a : List ℕ) → operand_test a ≡ true → IsOperand (bytes_for m) m a
  unfolding operand_test
  operand_sound a e = let h = and_both _ (is_clear m a) e in let g = and_both (eqb (length a) (bytes_for m)) _ h.0 in record {
    size = eqb-true _ _ g.0;
    byte = λ b. elim (dec_lt b (length a)) [
      | yes l ↦ ltb-true _ _ (every-at (length a) (λ b. ltb (get_or a b 0) 256) g.1 b l)
      | no l ↦ rw (get_or-eq_default a 0 {n = b} (omega arith)) (omega arith)
    ];
    clear = clear_at m a h.1;
  }

  module _ (table : List ℕ) where
    -- rule 5 for row d + 1, and rule 6 for i = 0, which implies the rest
    unfoldable pub rule5_test : ℕ → Bool
    rule5_test d = same (row m table (suc d)) (turned m (suc d) (row m table (m - suc d)))

    unfoldable pub rule6_test : ℕ → Bool
    rule6_test j = same
        (product m table (product m table (basis m 0) (basis m 0)) (basis m j))
        (product m table (basis m 0) (product m table (basis m 0) (basis m j)))

    unfoldable pub shape_test : Bool
    shape_test = eqb (length table) (m * bytes_for m) && every m (λ d. operand_test (row m table d))

    unfoldable pub rules_test : Bool
    rules_test = same (row m table 0) (basis m 1) && every (m - 1) rule5_test && every m rule6_test

    shape-sound : shape_test ≡ true → IsTable m table
    unfolding shape_test
    shape-sound e = let h = and_both (eqb (length table) (m * bytes_for m)) _ e in
        record { size = eqb-true _ _ h.0; rows = λ d l. operand_sound _ (every-at m (λ d. operand_test (row m table d)) h.1 d l) }

    rules-sound : 2 ≤ m → IsTable m table → rules_test ≡ true → Accepted m table
    unfolding rules_test rule5_test rule6_test
    rules-sound two is e = record { symmetric = symmetric; rule6 = theorem_f m table two is symmetric six }
      where
        h : (same (row m table 0) (basis m 1) && every (m - 1) rule5_test ≡ true) × (every m rule6_test ≡ true)
        h = and_both _ _ e

        g : (same (row m table 0) (basis m 1) ≡ true) × (every (m - 1) rule5_test ≡ true)
        g = and_both _ _ h.0

        five : (d : ℕ) → 1 ≤ d → d < m → Rule5 m table d
        five zero l k = absurd (omega arith)
        five (suc d) l k = same-eq _ _ (every-at (m - 1) rule5_test g.1 d (omega arith))

        symmetric : Symmetric m table
        symmetric = record { rule4 = same-eq _ _ g.0; rule5 = five }

        six : (j : ℕ) → j < m → Rule6 m table 0 j
        six j l = same-eq _ _ (every-at m rule6_test h.1 j l)

    pub passes-sound : 2 ≤ m → shape_test && rules_test ≡ true → IsTable m table × Accepted m table
    passes-sound two e = let h = and_both shape_test rules_test e in let is = shape-sound h.0 in (is, rules-sound two is h.1)

pub record CarriedTables : Type 0 where
  pub width2 : IsTable 2 (0x02 ∷ 0x03 ∷ []) × Accepted 2 (0x02 ∷ 0x03 ∷ [])
  pub width3 : IsTable 3 (0x02 ∷ 0x05 ∷ 0x06 ∷ []) × Accepted 3 (0x02 ∷ 0x05 ∷ 0x06 ∷ [])
  pub width4 : IsTable 4 (0x02 ∷ 0x08 ∷ 0x0F ∷ 0x04 ∷ []) × Accepted 4 (0x02 ∷ 0x08 ∷ 0x0F ∷ 0x04 ∷ [])
  pub width5 : IsTable 5 (0x02 ∷ 0x09 ∷ 0x18 ∷ 0x06 ∷ 0x14 ∷ []) × Accepted 5 (0x02 ∷ 0x09 ∷ 0x18 ∷ 0x06 ∷ 0x14 ∷ [])

pub carried-tables : CarriedTables
unfolding same operand_test rule5_test rule6_test shape_test rules_test every sum coord value tabulate pack minus is_clear below from_coords turned row basis pair_product product
carried-tables = record {
  width2 = passes-sound 2 _ (lit≤ tt) refl;
  width3 = passes-sound 3 _ (lit≤ tt) refl;
  width4 = passes-sound 4 _ (lit≤ tt) refl;
  width5 = passes-sound 5 _ (lit≤ tt) refl;
}
