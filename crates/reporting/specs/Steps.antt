-- Inner: what the code's steps make of a text, and what they take for granted of a table that was read.
use Rattle.std.specs.Prelude.{List, [], ◌∷◌, ℕ, ◌*◌, ◌≤◌, length, take, ltb, ◌++◌, Result}
use Rattle.gf2.specs.Operands.{bytes_for, choose}
use Rattle.table.specs.Rows.{Shaped}
use Rattle.reporting.specs.Text.{room, ascii, line}
use Rattle.reporting.specs.Report.{counts_line}
use Rattle.judging.specs.declared.fault.Fault.{Fault}
use Rattle.judging.specs.Causes.{answered}
use Rattle.table.specs.Judgements.{check_verdict}
use Rattle.netlist.specs.declared.AllCounts.{AllCounts}
use Rattle.netlist.specs.Lists.{plain, reduced, common}
use Rattle.netlist.specs.Calls.{counts_of}

-- a byte more, where there is room
unfoldable pub pushed : List ℕ → ℕ → List ℕ
pushed t b = choose (ltb (length t) room) (t ++ (b ∷ [])) t

-- some bytes more
unfoldable pub appended : List ℕ → List ℕ → List ℕ
appended t [] = t
appended t (b ∷ l) = appended (pushed t b) l

-- "Reading fills the first m·W bytes of the lent table"
abbrev pub front : ℕ → List ℕ → List ℕ
front m table = take (m * bytes_for m) table

-- a table of width m in front of the lent bytes
pub record InFront (m : ℕ) (lent : List ℕ) : Type 0 where
  pub within : m * bytes_for m ≤ length lent
  pub shaped : Shaped m (front m lent)

-- the lines of an accepted table, by the counts of its lists
abbrev pub accepted_lines : AllCounts → List ℕ
accepted_lines all =
    line (ascii "accepted") []
    ++ (counts_line (ascii "plain") all.plain
    ++ (counts_line (ascii "reduced") all.reduced
    ++ counts_line (ascii "common") all.common))

-- the counts of an accepted table's lists, or the fault of the check
abbrev pub judged_counts : ℕ → List ℕ → Result AllCounts Fault
judged_counts m table =
    answered (check_verdict m table)
    (record { plain = counts_of (plain m table); reduced = counts_of (reduced m table); common = counts_of (common m table) })
