-- The verdicts on a table, each that of its list of causes in document 01's table of faults (crates/judging/specs/FaultTable.antt).
use Rattle.std.specs.Prelude.{List, ℕ}
use Rattle.judging.specs.Causes.{Verdict, judged}
use Rattle.judging.specs.FaultTable.{shape_causes, symmetry_causes, triple_causes, check_causes}

-- 1 to 3: "A table is m rows, each an operand of W bytes, m·W in all"
abbrev pub shape_verdict : ℕ → List ℕ → Verdict
shape_verdict m table = judged (shape_causes m table)

-- 1 to 5, which the reduced product and the gate lists judge too
abbrev pub symmetry_verdict : ℕ → List ℕ → Verdict
symmetry_verdict m table = judged (symmetry_causes m table)

-- 6: "the search ends at the first pair that differs and returns it"
abbrev pub triple_verdict : ℕ → List ℕ → Verdict
triple_verdict m table = judged (triple_causes m table)

-- "A table is accepted when the check gives no number for it"
abbrev pub check_verdict : ℕ → List ℕ → Verdict
check_verdict m table = judged (check_causes m table)
