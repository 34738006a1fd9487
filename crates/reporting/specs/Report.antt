-- "The report program reads a card on standard input": what it prints, as bytes, for every input.
use Rattle.std.specs.Prelude.{List, [], ◌∷◌, ◌++◌, ℕ, ◌*◌, length, ltb, Ok, Err}
use Rattle.gf2.specs.Operands.{max_width, bytes_for, choose}
use Rattle.gf2.specs.Tables.{ones_in}
use Rattle.judging.specs.declared.fault.Fault.{Fault}
use Rattle.judging.specs.declared.fault.Fault.TheVariants.{Length}
use Rattle.judging.specs.Faults.{number_of}
use Rattle.judging.specs.Causes.{Verdict}
use Rattle.table.specs.Judgements.{check_verdict}
use Rattle.card.specs.Numbers.{Read, refused, got}
use Rattle.card.specs.Cards.{Table, read_card}
use Rattle.netlist.specs.declared.GateCounts.{GateCounts}
use Rattle.netlist.specs.Calls.{counts_of}
use Rattle.netlist.specs.Lists.{plain, reduced, common}
use Rattle.reporting.specs.Text.{ascii, line}

-- "Input above 65,536 bytes prints `refused 2`"
abbrev pub input_limit : ℕ
input_limit = 65536

-- the bytes of the lent table: those of a table of the greatest width
abbrev pub lent : ℕ
lent = max_width * bytes_for max_width

-- "`refused` and the number, as `refused 12`"
unfoldable pub refusal : Fault → List ℕ
refusal f = line (ascii "refused") ((number_of f).0 ∷ [])

-- "AND then XOR counts"
unfoldable pub counts_line : List ℕ → GateCounts → List ℕ
counts_line word counts = line word (counts.ands.0 ∷ counts.xors.0 ∷ [])

-- "`accepted`, `plain 4 4`, `reduced 4 3`, `common 4 3`, a line each"
unfoldable pub acceptance : ℕ → List ℕ → List ℕ
acceptance m table =
    line (ascii "accepted") []
    ++ (counts_line (ascii "plain") (counts_of (plain m table))
    ++ (counts_line (ascii "reduced") (counts_of (reduced m table))
    ++ counts_line (ascii "common") (counts_of (common m table))))

-- "verdict; AND then XOR counts"; "a check fault .. that"
abbrev pub closing : ℕ → List ℕ → Verdict → List ℕ
closing m table (Ok _) = acceptance m table
closing m table (Err f) = refusal f

-- "m; C; verdict; AND then XOR counts"; "a check fault the first two lines and then that"
unfoldable pub table_report : ℕ → List ℕ → List ℕ
table_report m table =
    line (ascii "width") (m ∷ [])
    ++ (line (ascii "ones") (ones_in m table ∷ [])
    ++ closing m table (check_verdict m table))

-- "A card fault prints only `refused` and the number"
abbrev pub read_report : Read Table → List ℕ
read_report (refused f) = refusal f
read_report (got t rest) = table_report t.width t.bytes

-- what is printed for the bytes s of standard input
unfoldable pub report : List ℕ → List ℕ
report s = choose (ltb input_limit (length s)) (refusal Length) (read_report (read_card lent s))

-- the verdict that is reported: the card's, or the check's
abbrev pub read_verdict : Read Table → Verdict
read_verdict (refused f) = Err f
read_verdict (got t rest) = check_verdict t.width t.bytes

-- the verdict on the input s, no fault where its table is accepted
-- It is never 3, as reading a card makes no bit at m or above; never 11, as the lent table has room for the greatest width. `ReportLaws`
-- of Statements states it.
unfoldable pub verdict : List ℕ → Verdict
verdict s = choose (ltb input_limit (length s)) (Err Length) (read_verdict (read_card lent s))
