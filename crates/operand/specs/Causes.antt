-- What each call on operands judges: its causes, in document 01's order. "1 to 3 hold for every call that takes such a thing"
-- First the calls on operands that are carried with their width, then the same on W bytes, which carry none.
use Rattle.std.specs.Prelude.{List, [], ◌∷◌, ℕ}
use Rattle.gf2.specs.Operands.{bytes_for}
use Rattle.judging.specs.Causes.{Cause}
use Rattle.judging.specs.FaultTable.{bad_width, bad_length, not_w, high_bit, trace_is_one}
use Rattle.operand.specs.declared.Operand.{Operand}

-- a carried operand
abbrev pub operand_causes : Operand → List Cause
operand_causes a = bad_width a.width ∷ high_bit a.width a.bytes ∷ []

-- two carried operands: "An operand whose carried width isn't that .. of the other operand, gets 2"
abbrev pub pair_causes : Operand → Operand → List Cause
pair_causes a b =
    bad_width a.width
    ∷ bad_width b.width
    ∷ bad_length b.width a.width
    ∷ high_bit a.width a.bytes
    ∷ high_bit b.width b.bytes
    ∷ []

-- 10: "trace of c is 1"
abbrev pub solve_causes : Operand → List Cause
solve_causes c = bad_width c.width ∷ high_bit c.width c.bytes ∷ trace_is_one c.width c.bytes ∷ []

-- an operand of W bytes
abbrev pub bytes_causes : ℕ → List ℕ → List Cause
bytes_causes m a = bad_width m ∷ not_w m a ∷ high_bit m a ∷ []

-- a carried operand, and a buffer of this length for its W bytes
abbrev pub room_causes : Operand → ℕ → List Cause
room_causes a size =
    bad_width a.width ∷ bad_length size (bytes_for a.width) ∷ high_bit a.width a.bytes ∷ []

-- zero and one: a width, and a result
abbrev pub constant_causes : ℕ → List ℕ → List Cause
constant_causes m result = bad_width m ∷ not_w m result ∷ []

-- an operand and a result: by document 02, (d), no count is refused
abbrev pub turn_bytes_causes : ℕ → List ℕ → List ℕ → List Cause
turn_bytes_causes m a result = bad_width m ∷ not_w m a ∷ not_w m result ∷ high_bit m a ∷ []

-- an operand and a result, then 10
abbrev pub solve_bytes_causes : ℕ → List ℕ → List ℕ → List Cause
solve_bytes_causes m c result = bad_width m ∷ not_w m c ∷ not_w m result ∷ high_bit m c ∷ trace_is_one m c ∷ []

-- two operands and a result: all lengths stand before any bit
abbrev pub sum_bytes_causes : ℕ → List ℕ → List ℕ → List ℕ → List Cause
sum_bytes_causes m a b result =
    bad_width m ∷ not_w m a ∷ not_w m b ∷ not_w m result ∷ high_bit m a ∷ high_bit m b ∷ []
