-- What is proved of the calls on operands beside their contracts: the statements alone, over the definitions that the contracts cite.
-- Turns: the count modulo the width; two turns are one; none, m and a whole round change nothing; by one and by m+1 they are the square.
-- Sums: associative, commutative, each operand its own inverse.
-- Quadratic: the solution's coordinate 0 is 0, it solves, it is the only one, and 10 is given exactly when there is none.
-- Transfer: an operand written and read comes back, and so do bytes read and written.
use Rattle.std.specs.Prelude.{◌≡◌, ◌↔◌, List, ℕ, zero, suc, ◌+◌, ◌*◌, ◌%◌, ◌<◌, ◌≤◌, length, get_or, Ok, Err}
use Rattle.gf2.specs.Coordinates.{coord}
use Rattle.gf2.specs.Operands.{max_width, bytes_for, carried_bytes, IsOperand, zeroes, added, turned, squared}
use Rattle.gf2.specs.Quadratic.{trace, root}
use Rattle.operand.specs.declared.Operand.{Operand}
use Rattle.judging.specs.declared.fault.Fault.TheVariants.{Call}
use Rattle.judging.specs.declared.fault.CallFault.TheVariants.{TraceOne}
use Rattle.operand.specs.Calls.{turn_call, solve_call, read_call, write_call}

-- f applied k times
unfoldable pub times : ℕ → (List ℕ → List ℕ) → List ℕ → List ℕ
times zero f a = a
times (suc k) f a = f (times k f a)

-- for every count
pub record TurnLaws (n m : ℕ) : Type 0 where
  pub modulo : (k : ℕ) (a : List ℕ) → turned m k a ≡ turned m (k % m) a
  pub twice : (j k : ℕ) (a : List ℕ) → IsOperand n m a → turned m k (turned m j a) ≡ turned m (j + k) a
  pub none : (a : List ℕ) → IsOperand n m a → turned m 0 a ≡ a
  pub whole : (a : List ℕ) → IsOperand n m a → turned m m a ≡ a
  pub round : (a : List ℕ) → IsOperand n m a → times m (turned m 1) a ≡ a
  pub square : (a : List ℕ) → squared m a ≡ turned m 1 a
  pub one_more : (a : List ℕ) → turned m (m + 1) a ≡ squared m a

pub record SumLaws (n m : ℕ) : Type 0 where
  pub associative : (a b c : List ℕ) → IsOperand n m a → IsOperand n m b → IsOperand n m c → added m (added m a b) c ≡ added m a (added m b c)
  pub commutative : (a b : List ℕ) → IsOperand n m a → IsOperand n m b → added m a b ≡ added m b a
  pub zero : (a : List ℕ) → IsOperand n m a → added m a (zeroes n m) ≡ a
  pub inverse : (a : List ℕ) → IsOperand n m a → added m a a ≡ zeroes n m

-- z² + z
abbrev pub quadratic : ℕ → List ℕ → List ℕ
quadratic m z = added m (squared m z) z

pub record QuadraticLaws (n m : ℕ) : Type 0 where
  pub first : (c : List ℕ) → IsOperand n m c → coord (root m c) 0 ≡ 0
  pub solves : (c : List ℕ) → IsOperand n m c → trace m c ≡ 0 → quadratic m (root m c) ≡ c
  pub only : (c z : List ℕ) → IsOperand n m c → IsOperand n m z → coord z 0 ≡ 0 → quadratic m z ≡ c → z ≡ root m c
  pub traceless : (c z : List ℕ) → IsOperand n m c → IsOperand n m z → quadratic m z ≡ c → trace m c ≡ 0

-- for operands of n bytes, W or more
pub record OperandLaws : Type 0 where
  pub turns : (n m : ℕ) → 2 ≤ m → m ≤ 8 * n → TurnLaws n m
  pub sums : (n m : ℕ) → 2 ≤ m → m ≤ 8 * n → SumLaws n m
  pub quadratics : (n m : ℕ) → 2 ≤ m → m ≤ 8 * n → QuadraticLaws n m

-- a carried operand of width m, as document 01 lays it down
pub record IsCarried (a : Operand) : Type 0 where
  pub least : 2 ≤ a.width
  pub greatest : a.width ≤ max_width
  pub operand : IsOperand carried_bytes a.width a.bytes

pub record CallLaws : Type 0 where
  -- a turn by k is answered as the turn by k modulo m, whatever the operand
  pub modulo : (a : Operand) (k : ℕ) → turn_call a k ≡ turn_call a (k % a.width)
  -- 10 is given exactly when no z solves the equation
  pub unsolvable : (c : Operand) → IsCarried c →
      (solve_call c ≡ Err (Call TraceOne)) ↔ ((z : List ℕ) → IsOperand carried_bytes c.width z → ¬ (quadratic c.width z ≡ c.bytes))
  -- writing an operand and reading it gives it back
  pub read_written : (a : Operand) (old : List ℕ) → IsCarried a → length old ≡ bytes_for a.width →
      read_call a.width (write_call a old) ≡ Ok a
  -- reading bytes and writing them gives them back
  pub written_read : (m : ℕ) (bytes old : List ℕ) → (a : Operand) → ((b : ℕ) → get_or bytes b 0 < 256) → read_call m bytes ≡ Ok a → length old ≡ length bytes →
      write_call a old ≡ bytes
