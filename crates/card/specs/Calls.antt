-- What reading a card answers, for every input, and the buffer that it leaves.
use Rattle.std.specs.Prelude.{List, ◌++◌, ℕ, length, drop, Result, Ok, Err}
use Rattle.judging.specs.declared.fault.Fault.{Fault}
use Rattle.card.specs.Numbers.{Read, refused, got}
use Rattle.card.specs.Cards.{Table, read_card}

-- bytes at the front of a lent buffer: "bytes after a written card or a read table, stay"
abbrev pub in_front : List ℕ → List ℕ → List ℕ
in_front bytes old = bytes ++ drop (length bytes) old

-- "reading one returns m"
abbrev pub read_answer : Read Table → Result ℕ Fault
read_answer (refused f) = Err f
read_answer (got t rest) = Ok t.width

-- "Reading fills the first m·W bytes of the lent table"; on a fault it is as it was
abbrev pub read_into : Read Table → List ℕ → List ℕ
read_into (refused f) old = old
read_into (got t rest) old = in_front t.bytes old

-- reading the card s, where the lent table is `old`
abbrev pub read_call : List ℕ → List ℕ → Result ℕ Fault
read_call s old = read_answer (read_card (length old) s)

abbrev pub read_table : List ℕ → List ℕ → List ℕ
read_table s old = read_into (read_card (length old) s) old
