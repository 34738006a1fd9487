-- Document 02, (d), over the calls on operands: a turn takes every count.
use Rattle.std.specs.Prelude.{◌≡◌, List, ℕ, ◌+◌, ◌%◌, ◌≤◌, length, Ok}
use Rattle.gf2.specs.Operands.{max_width, bytes_for, turned, squared}
use Rattle.gf2.specs.Products.{product}
use Rattle.gf2.specs.Field.{Op}
use Rattle.judging.specs.declared.fault.Fault.{Fault}
use Rattle.judging.specs.Faults.{number_of}
use Rattle.judging.specs.Causes.{judged}
use Rattle.operand.specs.declared.Operand.{Operand}
use Rattle.operand.specs.Causes.{turn_bytes_causes}
use Rattle.operand.specs.Calls.{turn_call, turn_into}
use Rattle.operand.specs.Statements.{times}
use Rattle.table.specs.Judgements.{check_verdict}

-- what nb_turn answers for an operand of width m and leaves in results of W bytes, whatever the counts
pub record TurnsOf (m : ℕ) (a : List ℕ) : Type 0 where
  pub no_fault : (old : List ℕ) → length old ≡ bytes_for m → judged (turn_bytes_causes m a old) ≡ Ok tt
  pub turn : (k : ℕ) (old : List ℕ) → length old ≡ bytes_for m → turn_into m a k old ≡ turned m k a
  -- two turns are the turn by both counts
  pub twice : (j k : ℕ) (old result : List ℕ) → length old ≡ bytes_for m → length result ≡ bytes_for m →
      turn_into m (turn_into m a j old) k result ≡ turn_into m a (j + k) result
  -- by m nothing changes, and by m+1 it is the square
  pub whole : (old : List ℕ) → length old ≡ bytes_for m → turn_into m a m old ≡ a
  pub one_more : (old : List ℕ) → length old ≡ bytes_for m → turn_into m a (m + 1) old ≡ squared m a

pub record Turns : Type 0 where
  -- "Let a turn take every count, meaning the count modulo m.": whatever is handed in, by W bytes and by value
  pub modulo : (m : ℕ) (a : List ℕ) (k : ℕ) (old : List ℕ) → turn_into m a k old ≡ turn_into m a (k % m) old
  pub carried_modulo : (a : Operand) (k : ℕ) → turn_call a k ≡ turn_call a (k % a.width)
  -- "Number 8 is never given any more": by demand 1 the number of each call is that of a fault
  pub never8 : (f : Fault) → ¬ ((number_of f).0 ≡ 8)
  -- "and its example becomes a turn by 0."
  pub example : (m : ℕ) (a old : List ℕ) → turn_into m a m old ≡ turn_into m a 0 old
  -- so of every operand
  pub operands : (m : ℕ) (a : List ℕ) → 2 ≤ m → m ≤ max_width → Op m a → TurnsOf m a
  -- "Programmers write powers as turns": under an accepted table k squarings, each a product, are the turn by k
  pub powers : (m : ℕ) (table a : List ℕ) → check_verdict m table ≡ Ok tt → Op m a → (k : ℕ) → times k (λ x. product m table x x) a ≡ turned m k a
