-- What each call on operands answers, for every input: its value, or its fault alone.
-- First the calls on operands that are carried with their width, then the same on W bytes: what they leave in the lent buffer.
use Rattle.std.specs.Prelude.{List, [], ◌∷◌, ℕ, length, Result, is_ok}
use Rattle.gf2.specs.Coordinates.{coord, pack}
use Rattle.gf2.specs.Operands.{bytes_for, carried_bytes, choose, carried_by, zeroes, ones, added, turned, squared}
use Rattle.gf2.specs.Quadratic.{trace, root}
use Rattle.judging.specs.declared.fault.Fault.{Fault}
use Rattle.judging.specs.Causes.{Verdict, judged, answered}
use Rattle.judging.specs.FaultTable.{bad_width}
use Rattle.operand.specs.declared.Operand.{Operand}
use Rattle.operand.specs.Causes.{operand_causes, pair_causes, solve_causes, bytes_causes, room_causes, constant_causes, turn_bytes_causes, solve_bytes_causes, sum_bytes_causes}

-- a fault, or the operand of width m with these bytes
abbrev pub answer : Verdict → ℕ → List ℕ → Result Operand Fault
answer v m bytes = answered v (record { bytes = bytes; width = m })

-- "Zero is a fixed operand of every width"
abbrev pub zero_call : ℕ → Result Operand Fault
zero_call m = answer (judged (bad_width m ∷ [])) m (zeroes carried_bytes m)

-- "one is the operand with all m coordinates 1"
abbrev pub one_call : ℕ → Result Operand Fault
one_call m = answer (judged (bad_width m ∷ [])) m (ones carried_bytes m)

-- "Turning an operand yields a new operand"; by document 02, (d), "Let a turn take every count, meaning the count modulo m"
abbrev pub turn_call : Operand → ℕ → Result Operand Fault
turn_call a k = answer (judged (operand_causes a)) a.width (turned a.width k a.bytes)

-- "Squaring means the turn by one"
abbrev pub square_call : Operand → Result Operand Fault
square_call a = answer (judged (operand_causes a)) a.width (squared a.width a.bytes)

-- "Operands are added coordinate by coordinate modulo 2"
abbrev pub sum_call : Operand → Operand → Result Operand Fault
sum_call a b = answer (judged (pair_causes a b)) a.width (added a.width a.bytes b.bytes)

-- "The trace is the sum of coordinates modulo 2"
abbrev pub trace_call : Operand → Result ℕ Fault
trace_call a = answered (judged (operand_causes a)) (trace a.width a.bytes)

-- "z² + z = c is answered with the solution whose coordinate 0 is 0"
abbrev pub solve_call : Operand → Result Operand Fault
solve_call c = answer (judged (solve_causes c)) c.width (root c.width c.bytes)

-- "An operand is W bytes"; "Inside the program an operand is carried as 72 bytes with its width"
abbrev pub read_call : ℕ → List ℕ → Result Operand Fault
read_call m bytes = answer (judged (bytes_causes m bytes)) m (carried_by bytes)

-- a buffer after a call: the result where there is no fault, else as it was
abbrev pub written : Verdict → List ℕ → List ℕ → List ℕ
written v result old = choose (is_ok v) result old

-- the W bytes with the operand's coordinates; on a fault the buffer as it was
abbrev pub write_call : Operand → List ℕ → List ℕ
write_call a old = written (judged (room_causes a (length old))) (pack (length old) (coord a.bytes)) old

-- zero, one, turn, sum and solution of W bytes
abbrev pub zero_into : ℕ → List ℕ → List ℕ
zero_into m old = written (judged (constant_causes m old)) (zeroes (bytes_for m) m) old

abbrev pub one_into : ℕ → List ℕ → List ℕ
one_into m old = written (judged (constant_causes m old)) (ones (bytes_for m) m) old

abbrev pub turn_into : ℕ → List ℕ → ℕ → List ℕ → List ℕ
turn_into m a k old = written (judged (turn_bytes_causes m a old)) (turned m k a) old

abbrev pub sum_into : ℕ → List ℕ → List ℕ → List ℕ → List ℕ
sum_into m a b old = written (judged (sum_bytes_causes m a b old)) (added m a b) old

abbrev pub solve_into : ℕ → List ℕ → List ℕ → List ℕ
solve_into m c old = written (judged (solve_bytes_causes m c old)) (root m c) old

-- the trace of W bytes
abbrev pub trace_of : ℕ → List ℕ → Result ℕ Fault
trace_of m a = answered (judged (bytes_causes m a)) (trace m a)
