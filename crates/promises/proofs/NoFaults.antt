-- Calls that give no fault: on operands of W bytes, with buffers of the lengths laid down; all but the turn under a table of the right shape.
use Rattle.std.specs.Prelude.{Ok}
use mathlib.Core.Path.{◌≡◌, refl}
use mathlib.Core.Bool.{Bool, true, false}
use mathlib.Core.List.{List, [], ◌∷◌}
use Prim.Native.Nat.{ℕ, ◌≤◌}
use lib.ListN.{length}
use Rattle.gf2.specs.Operands.{bytes_for, zeroes, same}
use Rattle.gf2.specs.Field.{Op}
use Rattle.gf2.proofs.Decisions.{same-decides}
use Rattle.judging.specs.Causes.{judged}
use Rattle.judging.specs.FaultTable.{too_short, is_zero, shape_causes, rule_causes, symmetry_causes}
use Rattle.judging.proofs.CauseLaws.{Fine, none-given, none-fine}
use Rattle.judging.proofs.Searches.{fine-append, fine-parts}
use Rattle.judging.proofs.Passed.{IsWidth, width-passes, length-passes, operand-passes, room-passes}
use Rattle.operand.specs.Causes.{turn_bytes_causes}
use Rattle.table.specs.Rows.{Shaped}
use Rattle.table.specs.Judgements.{symmetry_verdict}
use Rattle.table.proofs.Shapes.{shape-passes}
use Rattle.product.specs.Causes.{product_bytes_causes, reduced_bytes_causes, inverse_bytes_causes}
use Rattle.netlist.specs.Gates.{Netlist, words}
use Rattle.netlist.specs.Calls.{list_causes, list_verdict}

nonzero : (m : ℕ) (a : List ℕ) → ¬ (a ≡ zeroes (bytes_for m) m) → (is_zero (bytes_for m) m a).test ≡ false
nonzero m a n = go (same a (zeroes (bytes_for m) m)) refl
  where
    go : (b : Bool) → same a (zeroes (bytes_for m) m) ≡ b → b ≡ false
    go true e = absurd (n ((same-decides a (zeroes (bytes_for m) m)).0 e))
    go false e = refl

pub turn-none : {m : ℕ} → IsWidth m → (a old : List ℕ) → Op m a → length old ≡ bytes_for m → judged (turn_bytes_causes m a old) ≡ Ok tt
turn-none {m} w a old x room =
    none-given (turn_bytes_causes m a old) (width-passes m w, (length-passes _ _ x.size, (length-passes _ _ room, (operand-passes m a x, tt))))

-- a table of the right shape under rules 4 and 5
pub record Passed (m : ℕ) (table : List ℕ) : Type 0 where
  pub shaped : Shaped m table
  pub symmetry : symmetry_verdict m table ≡ Ok tt

module _ {m : ℕ} {table : List ℕ} (t : Passed m table) where
  shape : Fine (shape_causes m table)
  shape = shape-passes t.shaped

  rules : Fine (rule_causes m table)
  rules = (fine-parts (shape_causes m table) (rule_causes m table) ((none-fine (symmetry_causes m table)).0 t.symmetry)).1

  pub inverse-none : (a old : List ℕ) → Op m a → length old ≡ bytes_for m → ¬ (a ≡ zeroes (bytes_for m) m) → judged (inverse_bytes_causes m table a old) ≡ Ok tt
  inverse-none a old x room n = none-given (inverse_bytes_causes m table a old)
      (shape.0, (length-passes _ _ x.size, (length-passes _ _ room, (shape.1.0, (shape.1.1.0, (operand-passes m a x, (nonzero m a n, tt)))))))

  factors : (a b old : List ℕ) → Op m a → Op m b → length old ≡ bytes_for m → Fine (product_bytes_causes m table a b old)
  factors a b old x y room =
      (shape.0, (length-passes _ _ x.size, (length-passes _ _ y.size, (length-passes _ _ room, (shape.1.0, (shape.1.1.0, (operand-passes m a x, (operand-passes m b y, tt))))))))

  pub product-none : (a b old : List ℕ) → Op m a → Op m b → length old ≡ bytes_for m → judged (product_bytes_causes m table a b old) ≡ Ok tt
  product-none a b old x y room = none-given (product_bytes_causes m table a b old) (factors a b old x y room)

  pub reduced-none : (a b old : List ℕ) → Op m a → Op m b → length old ≡ bytes_for m → judged (reduced_bytes_causes m table a b old) ≡ Ok tt
  reduced-none a b old x y room =
      none-given (reduced_bytes_causes m table a b old) (fine-append (product_bytes_causes m table a b old) (rule_causes m table) (factors a b old x y room) rules)

  -- a list that has room
  pub list-none : (list : Netlist) (out : List ℕ) → length (words m list) ≤ length out → list_verdict m table list out ≡ Ok tt
  list-none list out room = none-given (list_causes m table list out)
      (fine-append (symmetry_causes m table) (too_short (length out) (length (words m list)) ∷ []) ((none-fine (symmetry_causes m table)).0 t.symmetry) (room-passes (length out) (length (words m list)) room, tt))
