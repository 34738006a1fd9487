-- `table::shaped::Table::judge_row_pairs` meets its contract.
use mathlib.Core.Path.{◌≡◌, refl, sym, ◌∙◌}
use Prim.Native.Nat.{◌+◌}
use native.Mathlib.Decide.{ℕ_discrete}
use native.Mathlib.Omega.{arith}
use Rattle.judging.specs.Causes.{judged}
use Rattle.judging.specs.FaultTable.{rows_differ, row_pair_causes}
use Rattle.judging.proofs.Searches.{up_to, one_found, one-fails}
use Rattle.table.proofs.Rules.{mirror_causes, MirrorsTo, mirror-test, half-search}
use Rattle.table.proofs.shaped.Table.judge_row_pairs.Goals as goal
use Rattle.table.proofs.shaped.Table.judge_row_pairs.Goals.{Else-not-mirrored}

-- one row more has passed
more : (c : Else-not-mirrored) → let a = c.args in let d = c.loop-d.d in
    (judged (row_pair_causes a.self.now.width a.self.now.bytes.now) ≡ judged (up_to (mirror_causes a.self.now.width a.self.now.bytes.now) a.self.now.width (d + 1))) × MirrorsTo a.self.now.width a.self.now.bytes.now (d + 1)
more c =
    let mirrors = sym c.mirrored.ensures ∙ c.if-not-mirrored.false in (
      c.loop-d.invariant.0 ∙ one-fails (rows_differ _ _) _ c.loop-d.d (omega (arith, c.args.self.now.shaped.least, c.loop-d-test.true)) (mirror-test _ _ c.loop-d.d mirrors),
      record { at = λ k l h. elim (ℕ_discrete k c.loop-d.d) [ yes q ↦ rw q mirrors | no q ↦ c.loop-d.invariant.1.at k l (omega arith) ] },
    )

pub loop-d-init : goal.loop-d-init
loop-d-init c = (refl, record { at = λ k l h. absurd (omega arith) })

pub returns-then-not-mirrored : goal.returns-then-not-mirrored
returns-then-not-mirrored c =
    sym (c.loop-d.invariant.0 ∙ one_found (rows_differ _ _) _ c.loop-d.d (omega (arith, c.args.self.now.shaped.least, c.loop-d-test.true))
    (mirror-test _ _ c.loop-d.d (sym c.mirrored.ensures ∙ c.if-not-mirrored.true)))

pub loop-d-preserved : goal.loop-d-preserved
loop-d-preserved c = more (goal.at.loop-d-preserved c).Else-not-mirrored

-- d is half of the width, rounded down
pub returns-else-not-mirrored : goal.returns-else-not-mirrored
returns-else-not-mirrored c =
    let m = more (goal.at.returns-else-not-mirrored c).Else-not-mirrored in
    sym (m.0 ∙ half-search c.args.self.now.shaped (c.loop-d.d + 1) (omega arith) m.1)

pub returns : goal.returns
returns c = let l = c.loop-d in sym (l.invariant.0 ∙ half-search c.args.self.now.shaped l.d (omega (arith, c.loop-d-test.false)) l.invariant.1)
