-- Rules 5 and 6 of the check: the causes of one row and of one pair, and their tests.
-- symmetric-rows: rules 4 and 5 say what each row is made of, so that no element of a row is above a byte.
-- mirror-back, half-search: rule 5 for row d is that for row m-d, so that half of the rows are enough.
use Rattle.std.specs.Prelude.{Ok}
use mathlib.Core.Path.{◌≡◌, refl, sym, ap, ◌∙◌}
use mathlib.Core.Bool.{Bool, true, not}
use mathlib.Core.List.{List, [], ◌∷◌}
use Prim.Native.Nat.{ℕ, zero, suc, ◌+◌, ◌-◌, ◌*◌, ◌<◌, ◌≤◌}
use native.Mathlib.Omega.{arith}
use Rattle.gf2.specs.Operands.{bytes_for, IsOperand, turned}
use Rattle.gf2.specs.Tables.{row}
use Rattle.gf2.specs.Check.{Symmetric}
use Rattle.gf2.proofs.Index.{at, at-add, at_all}
use Rattle.gf2.proofs.Vector.{turn, turn-turn, turn-z}
use Rattle.gf2.proofs.OperandVectors.{bytes_fit, vec, bytes, operand-vec, turned-bytes}
use Rattle.gf2.proofs.Operands.{turned-operand}
use Rattle.gf2.proofs.Decisions.{same-decides}
use Rattle.judging.specs.Causes.{Cause, judged, from}
use Rattle.judging.specs.FaultTable.{rows_differ, triple_differs}
use Rattle.judging.proofs.CauseLaws.{none-given}
use Rattle.judging.proofs.Searches.{up_to, fine-from}
use Rattle.limbs.proofs.ByteLists.{Bytes}
use Rattle.table.specs.Rows.{Shaped}
use Rattle.table.specs.Inner.{mirrors, left_product, right_product, associates}
use Rattle.table.proofs.BasisOperands.{basis-operand}

module _ (m : ℕ) (t : List ℕ) where
  -- 5 for row d, and 6 for i and every j
  abbrev pub mirror_causes : ℕ → List Cause
  mirror_causes d = rows_differ m t d ∷ []

  abbrev pub pair_causes : ℕ → ℕ → List Cause
  pair_causes i j = triple_differs m t i j ∷ []

  abbrev pub row_causes : ℕ → List Cause
  row_causes i = from 0 m (pair_causes i)

  -- the causes' tests, as the code makes them
  pub mirror-test : (d : ℕ) {b : Bool} → mirrors m t d ≡ b → (rows_differ m t d).test ≡ not b
  unfolding mirrors
  mirror-test d e = ap not e

  pub triple-test : (i j : ℕ) {b : Bool} → associates m t i j ≡ b → (triple_differs m t i j).test ≡ not b
  unfolding associates left_product right_product
  triple-test i j e = ap not e

pub symmetric-rows : {m : ℕ} {t : List ℕ} → Symmetric m t → (d : ℕ) → d < m → Bytes (row m t d)
symmetric-rows {m} s zero l = rw s.rule4 (basis-operand m 1).byte
symmetric-rows {m} {t} s (suc d) l = rw (s.rule5 (suc d) (omega arith) l) (turned-operand {m = m} (row m t (m - suc d)) refl (suc d)).byte

-- a turn and the rest of the way round
turn-home : (p n : ℕ) → suc p ≤ 8 * n → (d : ℕ) → d ≤ suc p → {x : List ℕ} → IsOperand n (suc p) x → turned (suc p) d (turned (suc p) (suc p - d) x) ≡ x
turn-home p n fits d h {x} o =
    let v = vec p x in
    let whole : suc p - d + d ≡ suc p = omega arith in
    ap (λ y. turned (suc p) d (turned (suc p) (suc p - d) y)) (operand-vec p o)
    ∙ ap (turned (suc p) d) (turned-bytes p n fits (suc p - d) v) ∙ turned-bytes p n fits d (turn (at (suc p - d)) v)
    ∙ ap (bytes p n) (turn-turn (at d) (at (suc p - d)) v ∙ ap (λ k. turn k v) (at-add (suc p - d) d ∙ ap at whole ∙ at_all) ∙ turn-z v)
    ∙ sym (operand-vec p o)

mirror-back : {m : ℕ} {t : List ℕ} → Shaped m t → (d : ℕ) → 1 ≤ d → d < m → mirrors m t (m - d) ≡ true → mirrors m t d ≡ true
unfolding mirrors
mirror-back {m = zero} {t} s d l h e = absurd (omega arith)
mirror-back {m = suc p} {t} s d l h e =
    let whole : suc p - (suc p - d) ≡ d = omega arith in
    let back = (same-decides _ _).0 e ∙ ap (λ k. turned (suc p) (suc p - d) (row (suc p) t k)) whole in
    (same-decides _ _).1 (sym (ap (turned (suc p) d) back ∙ turn-home p (bytes_for (suc p)) (bytes_fit (suc p)) d (omega arith) (s.is_table.rows d h)))

-- the rows from 1 to d-1 pass
pub record MirrorsTo (m : ℕ) (t : List ℕ) (d : ℕ) : Type 0 where
  pub at : (k : ℕ) → 1 ≤ k → k < d → mirrors m t k ≡ true

pub half-search : {m : ℕ} {t : List ℕ} → Shaped m t → (d : ℕ) → m < d + d → MirrorsTo m t d → judged (up_to (mirror_causes m t) m d) ≡ Ok tt
half-search {m} {t} s d h passed = none-given (up_to (mirror_causes m t) m d) (fine-from (mirror_causes m t) d (m - d) (λ k l q.
    (mirror-test m t k (mirror-back s k (omega arith) (omega arith) (passed.at (m - k) (omega arith) (omega arith))), tt)))
