-- What writing a card answers, for every input, and the buffer that it leaves.
use Rattle.std.specs.Prelude.{List, [], ◌∷◌, ◌++◌, ℕ, ◌+◌, ◌*◌, length, Result, is_ok}
use Rattle.gf2.specs.Operands.{choose}
use Rattle.judging.specs.declared.fault.Fault.{Fault}
use Rattle.judging.specs.Causes.{Cause, Verdict, judged, answered}
use Rattle.judging.specs.FaultTable.{too_short, shape_causes}
use Rattle.card.specs.Cards.{card}
use Rattle.card.specs.Calls.{in_front}

-- no card of width m is longer: the form takes one byte, m at most two, each row at most two for its number of ones and m for its places
abbrev pub longest : ℕ → ℕ
longest m = 3 + m * (m + 2)

-- 1 to 3 of the table, then 11: "lent output shorter than needed"
abbrev pub write_causes : ℕ → List ℕ → ℕ → List Cause
write_causes m table room = shape_causes m table ++ (too_short room (length (card m table)) ∷ [])

abbrev pub write_verdict : ℕ → List ℕ → ℕ → Verdict
write_verdict m table room = judged (write_causes m table room)

-- "Writing a card returns its length in bytes", where the lent output is `old`
abbrev pub write_call : ℕ → List ℕ → List ℕ → Result ℕ Fault
write_call m table old = answered (write_verdict m table (length old)) (length (card m table))

abbrev pub write_card : ℕ → List ℕ → List ℕ → List ℕ
write_card m table old = choose (is_ok (write_verdict m table (length old))) (in_front (card m table) old) old
