use Rattle.std.proofs.Common.{[], ◌∷◌, ap, ◌∙◌}
use Rattle.reporting.specs.Text.{spaced}
use Rattle.reporting.specs.Steps.{pushed, appended}
use Rattle.reporting.proofs.Texts.{number_more, line-put}
use Rattle.reporting.proofs.text.Draft.append_pair.Goals as goal

pub returns : goal.returns
returns c =
    let a = c.args in
    let first = c.append_number.ensures ∙ ap (λ t. appended t (spaced (a.first ∷ []))) c.append.ensures in
    let second = c.append_number-2.ensures ∙ ap (λ t. appended t (spaced (a.second ∷ []))) first ∙ number_more _ _ _ in
    c.push.ensures ∙ ap (λ t. pushed t 10) second ∙ line-put _ _ _
