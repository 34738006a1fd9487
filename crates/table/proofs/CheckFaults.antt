-- What holds of no fault and of every fault that a part of the check can give holds of the part's verdict.
-- of-symmetry: 1 to 5; of-rules: 4 and 5; of-triples: 6. A row or a triple that is named stands below the width.
use Rattle.std.specs.Prelude.{Ok, Err}
use mathlib.Core.List.{List}
use Prim.Native.Nat.{ℕ, ◌-◌, ◌<◌}
use native.Mathlib.Omega.{arith}
use Rattle.judging.specs.declared.fault.Fault.TheVariants.{Width, Length, HighBit, RowZero, RowPair, Triple}
use Rattle.judging.specs.Causes.{Verdict, judged}
use Rattle.judging.specs.FaultTable.{shape_causes, rule_causes, triple_causes}
use Rattle.judging.proofs.CauseLaws.{keeps, keeps-both}
use Rattle.judging.proofs.Searches.{each_from}
use Rattle.table.specs.Judgements.{shape_verdict, symmetry_verdict, triple_verdict}
use Rattle.table.proofs.Rules.{mirror_causes, pair_causes, row_causes}

module _ (P : Verdict → Type 0) (none : P (Ok tt)) (m : ℕ) (t : List ℕ) where
  of-shape : P (Err Width) → P (Err Length) → P (Err HighBit) → P (shape_verdict m t)
  of-shape one two three = keeps P none (shape_causes m t) (one, λ a. (two, λ b. (three, λ c. tt)))

  pub of-rules : P (Err RowZero) → ((d : ℕ) → d < m → P (Err (RowPair d))) → P (judged (rule_causes m t))
  of-rules four five = keeps P none (rule_causes m t) (four, λ a. each_from P none (mirror_causes m t) 1 (m - 1) (λ d l h. (five d (omega arith), λ b. tt)))

  pub of-symmetry : P (Err Width) → P (Err Length) → P (Err HighBit) → P (Err RowZero) → ((d : ℕ) → d < m → P (Err (RowPair d))) → P (symmetry_verdict m t)
  of-symmetry one two three four five = keeps-both P none (shape_causes m t) (rule_causes m t) (of-shape one two three) (λ p. of-rules four five)

  pub of-triples : ((i j : ℕ) → i < m → j < m → P (Err (Triple i j))) → P (triple_verdict m t)
  of-triples six = keeps P none (triple_causes m t) (each_from P none (row_causes m t) 0 m (λ i k u.
      each_from P none (pair_causes m t i) 0 m (λ j l v. (six i j (omega arith) (omega arith), λ a. tt))))
