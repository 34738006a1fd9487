-- What each call answers, for every input.
use Rattle.std.specs.Prelude.{List, ℕ, length, Result, is_ok}
use Rattle.gf2.specs.Operands.{choose}
use Rattle.judging.specs.declared.fault.Fault.{Fault}
use Rattle.judging.specs.Causes.{Verdict, judged, answered}
use Rattle.gaussian.specs.Types.{type_of}
use Rattle.gaussian.specs.Table.{drawn}
use Rattle.gaussian.specs.Causes.{type_causes, draw_causes}

-- a fault, or the type of m
abbrev pub answer : Verdict → ℕ → Result ℕ Fault
answer v m = answered v (type_of m)

-- "A fixed list holds the type of each width 2 to 571"
abbrev pub type_call : ℕ → Result ℕ Fault
type_call m = answer (judged (type_causes m)) m

-- the verdict on drawing into a buffer of this length
abbrev pub draw_verdict : ℕ → ℕ → Verdict
draw_verdict m size = judged (draw_causes m size)

-- "drawing a table returns its type T"
abbrev pub draw_call : ℕ → ℕ → Result ℕ Fault
draw_call m size = answer (draw_verdict m size) m

-- the table of m and its type; on a fault the buffer as it was
abbrev pub drawn_into : ℕ → List ℕ → List ℕ
drawn_into m old = choose (is_ok (draw_verdict m (length old))) (drawn m (type_of m)) old
