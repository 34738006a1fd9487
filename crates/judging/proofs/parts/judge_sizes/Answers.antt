-- `judging::parts::judge_sizes` meets its contract.
use mathlib.Core.Path.{ap, ◌∙◌}
use mathlib.Core.List.{[], ◌∷◌, map}
use Rattle.judging.specs.Causes.{judged}
use Rattle.judging.specs.FaultTable.{bad_width, bad_length, high_bit}
use Rattle.judging.proofs.CauseLaws.{ends, follows, handed_on}
use Rattle.judging.proofs.parts.judge_sizes.Goals as goal

pub returns-in_err-judge_width : goal.returns-in_err-judge_width
returns-in_err-judge_width c = handed_on c.from_residual.result c.from_residual.ensures.1 (ends (bad_width _ ∷ []) (map (λ n. bad_length n _) _) c.judge_width.ensures c.in_err-judge_width.was)

pub returns : goal.returns
returns c =
    follows (bad_width _ ∷ []) (map (λ n. bad_length n _) _) c.judge_width.ensures c.in_ok-judge_width.was
    (c.judge_lengths.ensures ∙ ap (λ n. judged (map (λ k. bad_length k n) c.args.given.now)) c.bytes_for.ensures)
