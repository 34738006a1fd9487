-- A turn takes every count: the laws of turns in crate operand, told of the calls.
use Rattle.std.specs.Prelude.{Ok}
use mathlib.Core.Path.{◌≡◌, sym, ap, ◌∙◌}
use mathlib.Core.List.{List}
use Prim.Native.Nat.{ℕ, zero, suc, ◌+◌, ◌%◌}
use native.Mathlib.Nat.{mod_self, zero-mod}
use native.Mathlib.Omega.{arith}
use lib.ListN.{length}
use Rattle.gf2.specs.Operands.{bytes_for, turned}
use Rattle.gf2.specs.Products.{product}
use Rattle.gf2.specs.Field.{Op, Field, Squares}
use Rattle.gf2.proofs.Operands.{turned-operand, turned-modulo}
use Rattle.judging.specs.Causes.{judged}
use Rattle.judging.proofs.Passed.{IsWidth}
use Rattle.operand.specs.Causes.{turn_bytes_causes}
use Rattle.operand.specs.Calls.{turn_into, written}
use Rattle.operand.specs.Statements.{times, TurnLaws}
use Rattle.operand.proofs.Theorems.{operand-laws}
use Rattle.operand.proofs.CallTheorems.{call-laws}
use Rattle.table.specs.Rows.{Shaped}
use Rattle.table.specs.Judgements.{check_verdict}
use Rattle.table.proofs.Theorems.{fields}
use Rattle.promises.specs.Turns.{TurnsOf, Turns}
use Rattle.promises.proofs.NoFaults.{turn-none}
use Rattle.promises.proofs.Numbers.{never8}

-- whatever is handed in
modulo : (m : ℕ) (a : List ℕ) (k : ℕ) (old : List ℕ) → turn_into m a k old ≡ turn_into m a (k % m) old
modulo m a k old = ap (λ x. written (judged (turn_bytes_causes m a old)) x old) (turned-modulo m k a)

module _ {m : ℕ} (w : IsWidth m) where
  laws : TurnLaws (bytes_for m) m
  laws = operand-laws.turns (bytes_for m) m w.least (omega arith)

  made : (a : List ℕ) → Op m a → (k : ℕ) (old : List ℕ) → length old ≡ bytes_for m → turn_into m a k old ≡ turned m k a
  made a o k old room = rw (turn-none w a old o room)

  twice : (a : List ℕ) → Op m a → (j k : ℕ) (old result : List ℕ) → length old ≡ bytes_for m → length result ≡ bytes_for m →
      turn_into m (turn_into m a j old) k result ≡ turn_into m a (j + k) result
  twice a o j k old result room room2 =
      ap (λ x. turn_into m x k result) (made a o j old room) ∙ made (turned m j a) (turned-operand a o.size j) k result room2
      ∙ laws.twice j k a o ∙ sym (made a o (j + k) result room2)

  of : (a : List ℕ) → Op m a → TurnsOf m a
  of a o = record {
    no_fault = λ old. turn-none w a old o;
    turn = made a o;
    twice = twice a o;
    whole = λ old room. made a o m old room ∙ laws.whole a o;
    one_more = λ old room. made a o (m + 1) old room ∙ laws.one_more a;
  }

-- a square is a product by demand 3, and two turns are one
module _ (m : ℕ) (table a : List ℕ) (none : check_verdict m table ≡ Ok tt) (o : Op m a) where
  field : Shaped m table × Field m table × Squares m table
  field = (fields m table).0 none

  width : IsWidth m
  width = record { least = field.0.least; greatest = field.0.greatest }

  powers : (k : ℕ) → times k (λ x. product m table x x) a ≡ turned m k a
  unfolding times
  powers zero = sym ((laws width).none a o)
  powers (suc k) =
      ap (λ x. product m table x x) (powers k) ∙ field.2.square (turned m k a) (turned-operand a o.size k)
      ∙ (laws width).twice k 1 a o ∙ ap (λ j. turned m j a) (omega arith)

pub turns : Turns
turns = record {
  modulo = modulo;
  carried_modulo = call-laws.modulo;
  never8 = never8;
  example = λ m a old. modulo m a m old ∙ ap (λ k. turn_into m a k old) (mod_self m ∙ sym (zero-mod m)) ∙ sym (modulo m a 0 old);
  operands = λ m a least greatest o. of (record { least = least; greatest = greatest }) a o;
  powers = powers;
}
