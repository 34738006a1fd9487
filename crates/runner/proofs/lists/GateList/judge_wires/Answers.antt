-- `runner::lists::GateList::judge_wires` meets its contract.
use mathlib.Core.Path.{ap, ◌∙◌}
use mathlib.Core.List.{[], ◌∷◌}
use Prim.Native.Nat.{◌+◌, ◌*◌}
use Rattle.judging.specs.Causes.{judged}
use Rattle.judging.specs.FaultTable.{bad_length}
use Rattle.judging.proofs.CauseLaws.{ends, follows, handed_on}
use Rattle.runner.specs.Causes.{list_word_causes, bad_wires}
use Rattle.runner.proofs.lists.GateList.judge_wires.Goals as goal

pub returns-in_err-judge_words : goal.returns-in_err-judge_words
returns-in_err-judge_words c =
    let a = c.args in
    handed_on c.from_residual.result c.from_residual.ensures.1
    (ends (list_word_causes a.self.now.width a.self.now.words.now) (bad_wires a.self.now.width a.self.now.words.now a.wires ∷ []) c.judge_words.ensures c.in_err-judge_words.was)

pub returns : goal.returns
returns c =
    let a = c.args in
    follows (list_word_causes a.self.now.width a.self.now.words.now) (bad_wires a.self.now.width a.self.now.words.now a.wires ∷ []) c.judge_words.ensures c.in_ok-judge_words.was
    (c.judge_length.ensures ∙ ap (λ g. judged (bad_length a.wires (2 * a.self.now.width + g) ∷ [])) c.gates.ensures)
