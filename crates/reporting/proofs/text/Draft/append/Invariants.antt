-- What is left of the word, put after the text so far, gives the whole.
use Rattle.std.proofs.Common.{◌≡◌, drop}
use Rattle.reporting.specs.Steps.{appended}
use Rattle.reporting.proofs.text.Draft.append.Given as goal

abbrev pub invariant-loop-byte : goal.invariant-loop-byte
invariant-loop-byte l = appended l.text.bytes.items (drop l.byte-index l.word) ≡ appended l.initial.text.bytes.items l.word
