-- `judging::parts::judge_lengths` meets its contract.
use Rattle.std.specs.Prelude.{◌≡◌, map, drop}
use Rattle.judging.specs.Causes.{judged}
use Rattle.judging.specs.FaultTable.{bad_length}
use Rattle.judging.proofs.parts.judge_lengths.Given as goal

abbrev pub invariant-loop-n : goal.invariant-loop-n
invariant-loop-n l = judged (map (λ n. bad_length n l.laid_down) l.given) ≡ judged (map (λ n. bad_length n l.laid_down) (drop l.n-index l.given))
